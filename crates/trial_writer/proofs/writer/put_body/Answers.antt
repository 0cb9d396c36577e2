-- `put_body` meets its contract: each part is put behind the one before.
use mathlib.Core.Path.{◌≡◌}
use mathlib.Core.List.{List, ◌++◌, append_assoc}
use Prim.Native.Nat.{ℕ, ◌+◌, ◌≤◌}
use lib.ListN.{length}
use Rattle.leb128.specs.Number.{encode_number}
use Rattle.leb128.specs.Writing.{Puts, PutsFitting}
use Rattle.leb128.proofs.Putting.{Putting, none_put, bytes_put, part_put, last_put, room_left, room_first}
use Rattle.trial.specs.Trial.{encode_lists, encode_body}
use Rattle.trial_writer.specs.Inner.{lists_of}
use Rattle.trial_writer.proofs.writer.put_body.Goals as goal

parts : (lists : List (List ℕ)) (name : List ℕ) → encode_body lists name ≡ encode_lists lists ++ (encode_number (length name) ++ name)
unfolding encode_body
parts lists name = simp append_assoc

-- What is put, part by part.
module _ (lists : List (List ℕ)) (name : List ℕ) where
  put₀ : (out : List ℕ) (at : ℕ)
      → Putting out out at at (encode_body lists name) (encode_lists lists ++ (encode_number (length name) ++ name))
  put₀ out at = none_put out at (parts lists name)

  put₂ : {out out₁ out₂ : List ℕ} {at at₁ at₂ : ℕ} → at + length (encode_body lists name) ≤ length out
      → Puts out at (encode_lists lists) at₁ out₁ → PutsFitting out₁ at₁ (encode_number (length name)) at₂ out₂
      → Putting out out₂ at at₂ (encode_body lists name) name
  put₂ {out} {at = at} room p₁ p₂ =
      part_put (encode_number (length name)) (bytes_put (encode_lists lists) (put₀ out at) p₁) room p₂

pub put_lists-at-requires : goal.put_lists-at-requires
put_lists-at-requires c =
    let content = c.args.content.now in
    let lists = lists_of content in
    room_first (encode_lists lists) _ (put₀ lists content.name.now c.args.out.now c.args.at) c.requires.room

pub put_name-requires : goal.put_name-requires
put_name-requires c =
    let content = c.args.content.now in
    room_left (put₂ (lists_of content) content.name.now c.requires.room c.put_lists-at.ensures c.put_number-at.ensures) c.requires.room

pub returns : goal.returns
returns c =
    let content = c.args.content.now in
    last_put (put₂ (lists_of content) content.name.now c.requires.room c.put_lists-at.ensures c.put_number-at.ensures) c.put_name.ensures
