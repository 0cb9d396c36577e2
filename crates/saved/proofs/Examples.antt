-- Small files, computed from the definition: a walk of degree 2 with a mark set, both ways; a file of kind 1; and for each number an input
-- that gets it, alone and in front of what comes after it; and the old release.
use mathlib.Core.List.{List, [], ◌∷◌, ◌++◌, map}
use mathlib.Core.Path.{◌≡◌, refl}
use Prim.Native.Nat.{ℕ}
use lib.ListN.{replicate}
use Rattle.reply.specs.Reply.{served, refused, spent}
use Rattle.poly.specs.Code.{add, mul, scale}
use Rattle.poly.specs.Limits.{outside}
use Rattle.pairs.specs.Words.{words_from}
use Rattle.pairs.specs.Sequences.{compositions, sequences, block}
use Rattle.pairs.specs.Pairs.{turn, build, pairs}
use Rattle.pairs.specs.Replies.{pair_reply}
use Rattle.pairs.proofs.Examples.{◌and◌}
use Rattle.leb128.specs.Parser.{parsed, parse_end}
use Rattle.leb128.specs.Number.{encode_number, parse_number}
use Rattle.walk.specs.declared.Walk.{Walk}
use Rattle.walk.specs.Walks.{next_pair, walk_at, bad_record}
use Rattle.saved.specs.Saved.{encode_walk, load}
use Rattle.walk.specs.Calls.{look, draw, set_mark, go_back}
use Rattle.saved.specs.Replies.{load_reply, save_reply}
use Rattle.saved.specs.Release.{OldWalk, old_reply, after_old_draw, old_answers}

-- At position 1 of the list of degree 2, mark 0 set there and mark 1 at the start; bonder 7 was given 300 pairs.
abbrev walk : Walk
walk = walk_at 2 1 (2 ∷ 1 ∷ replicate 6 0) (replicate 7 0 ++ (300 ∷ []))

abbrev place : List ℕ
place = 0x02 ∷ 0x02 ∷ 0x01 ∷ []

abbrev marks : List ℕ
marks = 0x02 ∷ 0x01 ∷ replicate 6 0x00

abbrev file : List ℕ
file = place ++ marks ++ replicate 7 0x00 ++ (0xAC ∷ 0x02 ∷ [])

encoded : encode_walk walk ≡ file
unfolding encode_walk encode_number
encoded = refl

decoded : load file ≡ parsed walk []
unfolding load parse_end parse_number next_pair bad_record outside
decoded = refl

decoded_first_kind : load (0x01 ∷ 0x02 ∷ 0x02 ∷ []) ≡ parsed (walk_at 2 2 (replicate 8 0) (replicate 8 0)) []
unfolding load parse_end parse_number next_pair bad_record outside
decoded_first_kind = refl

-- 10^18, and one more.
abbrev full : List ℕ
full = 0x80 ∷ 0x80 ∷ 0x90 ∷ 0xBB ∷ 0xBA ∷ 0xD6 ∷ 0xAD ∷ 0xF0 ∷ 0x0D ∷ []

abbrev above_full : List ℕ
above_full = 0x81 ∷ 0x80 ∷ 0x90 ∷ 0xBB ∷ 0xBA ∷ 0xD6 ∷ 0xAD ∷ 0xF0 ∷ 0x0D ∷ []

-- Files of which the counts, or what stands in their place, are given.
abbrev with_counts : List ℕ → List ℕ
with_counts bytes = place ++ marks ++ bytes

abbrev files : List (List ℕ)
files =
    file ∷ with_counts (full ++ replicate 7 0x00)
    ∷ [] ∷ replicate 9 0x80 ∷ place ∷ (place ++ marks) ∷ with_counts (replicate 7 0x00)
    ∷ replicate 10 0x80 ∷ (0x82 ∷ 0x00 ∷ []) ∷ (0x02 ∷ (replicate 9 0xFF ++ (0x02 ∷ [])))
    ∷ (0x00 ∷ []) ∷ (0x03 ∷ []) ∷ (replicate 9 0xFF ++ (0x01 ∷ []))
    ∷ with_counts above_full ∷ with_counts (replicate 7 0x00 ++ above_full ++ (0x00 ∷ []))
    ∷ (file ++ (0x00 ∷ [])) ∷ (0x01 ∷ 0x02 ∷ 0x03 ∷ 0x00 ∷ []) ∷ (0x01 ∷ 0x20 ∷ 0x00 ∷ 0x00 ∷ [])
    ∷ (0x01 ∷ 0x02 ∷ 0x03 ∷ []) ∷ (0x01 ∷ 0x20 ∷ 0x00 ∷ []) ∷ (0x01 ∷ 0x82 ∷ 0x80 ∷ 0x80 ∷ 0x80 ∷ 0x10 ∷ 0x00 ∷ [])
    ∷ (place ++ (0x04 ∷ replicate 15 0x00))
    ∷ []

loads : map (λ bytes. load_reply (load bytes)) files
    ≡ served [] ∷ served []
    ∷ refused 9 ∷ refused 9 ∷ refused 9 ∷ refused 9 ∷ refused 9
    ∷ refused 10 ∷ refused 10 ∷ refused 10
    ∷ refused 22 ∷ refused 22 ∷ refused 22
    ∷ refused 23 ∷ refused 23
    ∷ refused 17 ∷ refused 17 ∷ refused 17
    ∷ refused 3 ∷ refused 3 ∷ refused 3
    ∷ refused 3
    ∷ []
unfolding load parse_end parse_number bad_record outside
loads = refl

-- Room for the file, one byte less, and a bad record.
saves : save_reply walk 20 ∷ save_reply walk 19 ∷ save_reply (walk_at 2 3 (replicate 8 0) (replicate 8 0)) 0 ∷ []
    ≡ served (20 ∷ []) ∷ refused 4 ∷ refused 3 ∷ []
unfolding save_reply encode_walk encode_number bad_record outside
saves = refl

-- The old release at degree 2, whose list is (7,5), (5,7): marks are left out; a draw moves on, a look does not; number 3.
abbrev old_at : ℕ → ℕ → OldWalk
old_at n position = record { degree = n; position = position }

old_example : old_answers (old_at 2 0) (look ∷ set_mark 0 ∷ draw 7 ∷ go_back 0 ∷ draw 0 ∷ look ∷ draw 0 ∷ [])
    ≡ pair_reply (7 and 5) ∷ pair_reply (7 and 5) ∷ pair_reply (5 and 7) ∷ spent ∷ spent ∷ []
unfolding pairs sequences block compositions words_from build turn add mul scale outside old_reply after_old_draw
old_example = refl

old_refusals : old_reply (old_at 2 2) ∷ old_reply (old_at 2 3) ∷ old_reply (old_at 0 0) ∷ old_reply (old_at 32 0) ∷ []
    ≡ spent ∷ refused 3 ∷ refused 3 ∷ refused 3 ∷ []
unfolding outside old_reply
old_refusals = refl
