-- The test of a record, and then that of the number of a mark or a bonder.
use mathlib.Core.Bool.{true, false}
use mathlib.Core.List.{[], ◌∷◌}
use mathlib.Core.Path.{◌≡◌}
use Prim.Native.Nat.{ℕ, ◌≤◌}
use borrow.Author.Tests.{le-ltb}
use lib.Dec.{ltb}
use Rattle.reply.specs.Reply.{Reply, served, refused, ◌gives◌, unless}
use Rattle.walk.specs.declared.Walk.{Walk}
use Rattle.walk.specs.Walks.{bad_record, record_cause}

module _ (walk : Walk) (number k : ℕ) where
  abbrev pub tested : Reply
  tested = unless (record_cause walk ∷ ltb 7 number gives k ∷ []) (served [])

  pub test_bad : bad_record walk ≡ true → refused 3 ≡ tested
  test_bad e = rw e

  module _ (good : bad_record walk ≡ false) where
    pub test_passes : number ≤ 7 → served [] ≡ tested
    test_passes l = rw (good, le-ltb 7 number l)
