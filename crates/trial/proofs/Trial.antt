-- The two laws of the codec over whole files: what the writer accepts is read back from its encoding, and a file that is accepted is the
-- encoding of its content, which the writer accepts. Field by field, each handing the rest to the next; code by code and list by list, so
-- that it does not matter how many the version has.
use mathlib.Core.Path.{◌≡◌, refl, sym, ap, ◌∙◌}
use Prim.Native.Nat.{ℕ, zero, suc, ◌^◌, ◌≤◌, ◌<◌}
use mathlib.Core.Bool.{false}
use mathlib.Core.List.{List, [], ◌∷◌, ◌++◌, append_assoc, append-nil}
use native.Mathlib.Omega.{arith}
use lib.ListN.{length, take, drop, take-append-drop}
use lib.Seq.{take-length, drop-length, length-take-le}
use lib.Pow.{pow_mono}
use lib.Dec.{ltb}
use borrow.Author.Tests.{le-ltb, ltb-false}
use Rattle.reply.specs.Reply.{◌gives◌}
use Rattle.reply.proofs.Order.{NoneApplies, clear_append, clear_left, clear_right}
use Rattle.poly.specs.Causes.{code_causes, own_causes, common_factors}
use Rattle.poly.proofs.Ranges.{within, passed_code}
use Rattle.leb128.specs.Parser.{parsed, pure, ◌>>=◌, checked, parse_end}
use Rattle.leb128.specs.Number.{AllBelow, encode_number, encode_numbers, limits64, fields}
use Rattle.leb128.proofs.Parser.{barred, with_parsed, checked_parsed, parsed_checked}
use Rattle.leb128.proofs.Field.{field_back, below_rest, with_field, NoneOf, fields_back, fields_same}
use Rattle.trial.specs.Rules.{today}
use Rattle.trial.specs.Levels.{parse_levels}
use Rattle.trial.specs.Trial.{Head, Trial, encode_head, encode_lists, encode_body, encode, version_causes, degree_causes, head_causes}
use Rattle.trial.specs.Trial.{size_causes, text_causes, any_unprintable, parse_coprime, parse_head, parse_text, parse_name}
use Rattle.trial.specs.Trial.{parse_lists, parse_body, parse}
use Rattle.trial.specs.Replies.{list_causes, name_causes, body_causes, content_causes}
use Rattle.trial.specs.Claims.{LowLevels}
use Rattle.trial.proofs.Levels.{levels_back, levels_same}
use Rattle.trial.proofs.Content.{FullList, FullLists, lists_clear, Formed, sound}

-- A code of degree n, 6 at most, has seven bits.
pub code_small : (n code : ℕ) → n ≤ 6 → NoneApplies (code_causes n code) → code < 128
code_small n code h clear = omega (arith, (passed_code n code clear).0.high, pow_mono {i = suc n} {j = 7} (omega arith))

-- What several codes are refused for, code by code and all in a row.
each_clear : (n : ℕ) (codes : List ℕ) → NoneApplies (own_causes n codes) → NoneOf (code_causes n) codes
each_clear n [] clear = tt
each_clear n (code ∷ codes) clear = (
  clear_left (code_causes n code) (own_causes n codes) clear,
  each_clear n codes (clear_right (code_causes n code) (own_causes n codes) clear),
)

own_clear : (n : ℕ) (codes : List ℕ) → NoneOf (code_causes n) codes → NoneApplies (own_causes n codes)
own_clear n [] clear = tt
own_clear n (code ∷ codes) clear = clear_append (code_causes n code) (own_causes n codes) clear.0 (own_clear n codes clear.1)

codes_small : (n : ℕ) (codes : List ℕ) → n ≤ 6 → NoneOf (code_causes n) codes → AllBelow 128 codes
codes_small n [] low clear = λ i. omega arith
codes_small n (code ∷ codes) low clear =
    elim [ zero ↦ code_small n code low clear.0 | suc i ↦ codes_small n codes low clear.1 i ]

codes_back : (n : ℕ) (codes rest : List ℕ) → n ≤ 6 → NoneApplies (own_causes n codes)
    → fields limits64 (code_causes n) (length codes) (encode_numbers codes ++ rest) ≡ parsed codes rest
codes_back n codes rest low clear =
    let each = each_clear n codes clear in
    fields_back (code_causes n) codes rest (λ i. omega (arith, codes_small n codes low each i)) each

pub head_back : (head : Head) (rest : List ℕ) → length head.codes ≡ suc head.version → NoneApplies (head_causes today head)
    → parse_head today (encode_head head ++ rest) ≡ parsed head rest
unfolding encode_head parse_head parse_coprime
head_back head rest many clear =
    let v : ℕ = head.version in
    let n : ℕ = head.degree in
    let codes : List ℕ = head.codes in
    let new : v ≤ 2 = (within 1 2 clear.0).1 in
    let low : n ≤ 6 = (within 2 6 clear.1.0).1 in
    let own = clear_left (own_causes n codes) (common_factors codes) clear.1.1 in
    let coprime = clear_right (own_causes n codes) (common_factors codes) clear.1.1 in
    let back = rw many at (codes_back n codes rest low own) in
    simp append_assoc
    (rw (
      field_back (version_causes today) v (encode_number n ++ (encode_numbers codes ++ rest)) (omega arith) (clear.0, tt),
      field_back degree_causes n (encode_numbers codes ++ rest) (omega arith) (clear.1.0, tt),
      parsed_checked (fields limits64 (code_causes n) (suc v)) common_factors (encode_numbers codes ++ rest) back coprime,
    ))

record HeadRead (bytes : List ℕ) (head : Head) (rest : List ℕ) : Type 0 where
  many : length head.codes ≡ suc head.version
  clear : NoneApplies (head_causes today head)
  same : encode_head head ++ rest ≡ bytes

head_same : (bytes : List ℕ) {head : Head} {rest : List ℕ} → AllBelow 256 bytes → parse_head today bytes ≡ parsed head rest
    → HeadRead bytes head rest
unfolding encode_head parse_head parse_coprime
head_same bytes {head} {rest} below e =
    with_field limits64 (version_causes today) _ bytes below e λ v r₁ cv sv b₁ e₁.
    with_field limits64 degree_causes _ r₁ b₁ e₁ λ n r₂ cn sn b₂ e₂.
    with_parsed (checked (fields limits64 (code_causes n) (suc v)) common_factors) _ r₂ e₂ λ codes r₃ ec e₃.
    let c = checked_parsed (fields limits64 (code_causes n) (suc v)) common_factors r₂ ec in
    let t = fields_same limits64 (code_causes n) (suc v) r₂ b₂ c.1 in
    let head_is : head ≡ record { version = v; degree = n; codes = codes } = cc in
    let rest_is : rest ≡ r₃ = cc in
    rw (head_is, rest_is)
    (record {
      many = t.many;
      clear = (cv.0, (cn.0, clear_append (own_causes n codes) (common_factors codes) (own_clear n codes t.clear) c.0));
      same = simp append_assoc (rw (t.same, sn) sv);
    })

text_back : (name : List ℕ) → any_unprintable name ≡ false → parse_text (length name) name ≡ parsed name []
unfolding parse_text
text_back name printable = rw (le-ltb (length name) (length name) (omega arith), take-length, drop-length, printable)

last_back : (name : List ℕ) → NoneApplies (name_causes name)
    → (parse_name today >>= parse_end) (encode_number (length name) ++ name) ≡ parsed name []
unfolding parse_name parse_end
last_back name clear =
    let short : length name ≤ 40 = ltb-false 40 (length name) clear.0 in
    rw (field_back size_causes (length name) name (omega arith) (clear.0, tt), text_back name clear.1.0)

empty : (bytes : List ℕ) → ltb 0 (length bytes) ≡ false → bytes ≡ []
empty [] e = refl
empty (b ∷ bytes) e = absurd (omega (arith, ltb-false 0 (length (b ∷ bytes)) e))

record LastRead (bytes name : List ℕ) : Type 0 where
  clear : NoneApplies (name_causes name)
  same : encode_number (length name) ++ name ≡ bytes

last_same : (bytes : List ℕ) {name rest : List ℕ} → AllBelow 256 bytes → (parse_name today >>= parse_end) bytes ≡ parsed name rest
    → LastRead bytes name
unfolding parse_name parse_text parse_end
last_same bytes {name} {rest} below e =
    with_parsed (parse_name today) parse_end bytes e λ name' end e₁ e₂.
    with_field limits64 size_causes _ bytes below e₁ λ size behind c s b e₃.
    let t = barred (text_causes size behind) _ behind e₃ in
    let enough : size ≤ length behind = ltb-false (length behind) size t.0.0 in
    let whole : length (take size behind) ≡ size = length-take-le size behind enough in
    let last = barred (ltb 0 (length end) gives 17 ∷ []) (pure name') end e₂ in
    let none : end ≡ [] = empty end last.0.0 in
    let nothing : drop size behind ≡ [] = cc t.1 in
    let name_is : name ≡ take size behind = cc (t.1, last.1) in
    let all : take size behind ≡ behind = sym (append-nil (take size behind)) ∙ (rw nothing at (take-append-drop size behind)) in
    rw name_is (record { clear = (rw whole c.0, (t.0.1.0, tt)); same = rw (whole, all) s })

-- Lists of levels, of the length asked, are read back.
lists_back : (order : ℕ) (lists : List (List ℕ)) (rest : List ℕ) → LowLevels lists → FullLists order lists
    → parse_lists today order (length lists) (encode_lists lists ++ rest) ≡ parsed lists rest
lists_back order [] rest low whole = refl
lists_back order (levels ∷ lists) rest low whole =
    let this = whole 0 (omega arith) in
    let first = rw this.long at (levels_back levels [] (encode_lists lists ++ rest) (low 0) this.differ) in
    rw (append_assoc, first, lists_back order lists rest (λ k. low (suc k)) (λ k h. whole (suc k) (omega arith)))

-- What the writer accepts is read back.
pub trial_back : (t : Trial) → Formed t → LowLevels t.lists → NoneApplies (content_causes t) → parse (encode t) ≡ parsed t []
unfolding content_causes encode encode_body parse parse_body
trial_back t formed low clear =
    let order : ℕ = 2 ^ t.head.degree in
    let name_bytes : List ℕ = encode_number (length t.name) ++ t.name in
    let s = sound t clear in
    let lists = rw formed.lists at (lists_back order t.lists name_bytes low s.lists) in
    simp append_assoc
    (rw (
      head_back t.head (encode_lists t.lists ++ name_bytes) formed.codes s.head,
      lists,
      last_back t.name s.name,
    ))

-- So many lists of levels were read.
record ListsRead (order count : ℕ) (bytes : List ℕ) (lists : List (List ℕ)) (rest : List ℕ) : Type 0 where
  many : length lists ≡ count
  low : LowLevels lists
  whole : FullLists order lists
  same : encode_lists lists ++ rest ≡ bytes

lists_same : (order count : ℕ) (bytes : List ℕ) {lists : List (List ℕ)} {rest : List ℕ} → AllBelow 256 bytes
    → parse_lists today order count bytes ≡ parsed lists rest → ListsRead order count bytes lists rest
lists_same order zero bytes {lists} {rest} below e =
    let none : lists ≡ [] = cc in
    let all : rest ≡ bytes = cc in
    rw (none, all) (record { many = refl; low = λ k i. omega arith; whole = λ k h. absurd (omega arith); same = refl })
lists_same order (suc count) bytes {lists} {rest} below e =
    with_parsed (parse_levels today order []) _ bytes e λ levels r₁ l e₁.
    with_parsed (parse_lists today order count) _ r₁ e₁ λ others r₂ o e₂.
    let f = levels_same today order [] bytes below l in
    let same : encode_numbers levels ++ r₁ ≡ bytes = rw f.whole at f.same in
    let this : FullList order levels = rw (← f.whole) (record { long = f.size; differ = f.allowed }) in
    let t = lists_same order count r₁ (below_rest (encode_numbers levels) r₁ bytes same below) o in
    let lists_are : lists ≡ levels ∷ others = cc in
    let rest_is : rest ≡ r₂ = cc in
    rw (lists_are, rest_is)
    (record {
      many = ap suc t.many;
      low = elim [ zero ↦ rw f.whole at f.low | suc k ↦ t.low k ];
      whole = elim [ zero ↦ λ h. this | suc k ↦ λ h. t.whole k (omega arith) ];
      same = rw (append_assoc, t.same) same;
    })

-- A file is accepted as the encoding of a content that the writer accepts.
pub record Accepted (file : List ℕ) (t : Trial) : Type 0 where
  pub formed : Formed t
  pub low : LowLevels t.lists
  pub clear : NoneApplies (content_causes t)
  pub same : encode t ≡ file

pub trial_same : (file : List ℕ) {t : Trial} {rest : List ℕ} → AllBelow 256 file → parse file ≡ parsed t rest → Accepted file t
unfolding content_causes encode encode_body parse parse_body
trial_same file {t} {rest} below e =
    with_parsed (parse_head today) _ file e λ head r₁ h e₁.
    let hs = head_same file below h in
    let b₁ = below_rest (encode_head head) r₁ file hs.same below in
    with_parsed (parse_lists today (2 ^ head.degree) (suc head.version)) _ r₁ e₁ λ lists r₂ l e₂.
    let ls = lists_same (2 ^ head.degree) (suc head.version) r₁ b₁ l in
    let b₂ = below_rest (encode_lists lists) r₂ r₁ ls.same b₁ in
    with_parsed (parse_name today >>= parse_end) _ r₂ e₂ λ name r₃ l e₃.
    let ns = last_same r₂ b₂ l in
    let content : Trial = record { head = head; lists = lists; name = name } in
    let t_is : t ≡ content = cc in
    rw t_is
    (record {
      formed = record { codes = hs.many; lists = ls.many };
      low = ls.low;
      clear =
          clear_append (head_causes today head) (body_causes content) hs.clear
          (clear_append (list_causes (2 ^ head.degree) lists) (name_causes name) (lists_clear (2 ^ head.degree) lists ls.whole)
          ns.clear);
      same = simp append_assoc (rw (ns.same, ls.same) hs.same);
    })
