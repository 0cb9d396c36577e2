-- The bytes of a file of version v are at most 43 + 193 * (v + 1): 2 of version and degree and 1 of each of the v + 1 codes, since these
-- numbers are below 128; 3 of each of the levels, of which each of the v + 1 lists has at most 64; 1 of the name's length, and 40 of the
-- name.
use mathlib.Core.Logic.{inl, inr}
use mathlib.Core.Path.{◌≡◌, refl, ap}
use Prim.Native.Nat.{ℕ, suc, ◌+◌, ◌*◌, ◌^◌, ◌≤◌}
use mathlib.Core.List.{List, [], ◌∷◌}
use native.Mathlib.Omega.{arith}
use lib.ListN.{length, length-append}
use Rattle.reply.proofs.Order.{NoneApplies, clear_left, clear_right}
use Rattle.poly.specs.Causes.{code_causes, own_causes, common_factors}
use Rattle.poly.proofs.Ranges.{within}
use Rattle.leb128.specs.Number.{AllBelow, encode_numbers}
use Rattle.leb128.proofs.Number.{encode_small, numbers_most}
use Rattle.trial.specs.Trial.{Trial, encode_head, encode_lists, encode_body, encode}
use Rattle.trial.specs.Replies.{content_causes}
use Rattle.trial.specs.Claims.{LowLevels, file_room}
use Rattle.trial.proofs.Order.{order_few}
use Rattle.trial.proofs.Content.{FullLists, Formed, sound, version_is}
use Rattle.trial.proofs.Trial.{code_small}

levels_room : (levels : List ℕ) → AllBelow 65536 levels → length (encode_numbers levels) ≤ 3 * length levels
levels_room levels below = numbers_most 2 levels (λ i. let l = below i in omega arith)

lists_room : (order : ℕ) (lists : List (List ℕ)) → order ≤ 64 → LowLevels lists → FullLists order lists
    → length (encode_lists lists) ≤ 192 * length lists
lists_room order [] few low whole = omega arith
lists_room order (levels ∷ lists) few low whole =
    let one = levels_room levels (low 0) in
    let others = lists_room order lists few (λ k. low (suc k)) (λ k h. whole (suc k) (omega arith)) in
    rw (length-append (encode_numbers levels) (encode_lists lists)) (omega (arith, (whole 0 (omega arith)).long))

codes_room : (n : ℕ) (codes : List ℕ) → n ≤ 6 → NoneApplies (own_causes n codes) → length (encode_numbers codes) ≡ length codes
codes_room n [] low clear = refl
codes_room n (code ∷ codes) low clear =
    let small = code_small n code low (clear_left (code_causes n code) (own_causes n codes) clear) in
    rw (encode_small code small) (ap suc (codes_room n codes low (clear_right (code_causes n code) (own_causes n codes) clear)))

most : (t : Trial) → Formed t → LowLevels t.lists → NoneApplies (content_causes t)
    → length (encode t) ≤ 43 + 193 * suc t.head.version
unfolding encode encode_body encode_head
most t formed low clear =
    let s = sound t clear in
    let v : ℕ = t.head.version in
    let n : ℕ = t.head.degree in
    let new : v ≤ 2 = (within 1 2 s.version).1 in
    let high : n ≤ 6 = (within 2 6 s.degree).1 in
    let own = clear_left (own_causes n t.head.codes) (common_factors t.head.codes) s.codes in
    let lists = lists_room (2 ^ n) t.lists (order_few n s.degree) low s.lists in
    simp length-append
    (rw (
      encode_small v (omega arith),
      encode_small n (omega arith),
      codes_room n t.head.codes high own,
      encode_small (length t.name) (omega (arith, s.name_short)),
    )
    (omega (arith, formed.codes, formed.lists, s.name_short)))

pub encode_room : (t : Trial) → Formed t → LowLevels t.lists → NoneApplies (content_causes t)
    → length (encode t) ≤ file_room t.head.version
encode_room t formed low clear =
    elim (version_is t.head.version (sound t clear).version) [
      | inl v ↦ rw v (rw v at (most t formed low clear))
      | inr v ↦ rw v (rw v at (most t formed low clear))
    ]
