-- The last field at positions of the file: the size of the name has been read, and its bytes stand from `start` on.
use mathlib.Core.Path.{◌≡◌}
use Prim.Native.Nat.{ℕ, ◌+◌, ◌-◌, ◌≤◌, ◌<◌}
use mathlib.Core.Bool.{true, false}
use mathlib.Core.List.{List, []}
use native.Mathlib.Omega.{arith}
use lib.ListN.{length, take, drop, length-drop, drop_of_length-le}
use lib.Seq.{drop-drop}
use borrow.Author.Tests.{lt-ltb, le-ltb}
use Rattle.leb128.specs.Parser.{parsed, failed, ◌>>=◌, parse_end}
use Rattle.leb128.specs.Number.{limits64, field}
use Rattle.trial.specs.Rules.{today}
use Rattle.trial.specs.Trial.{size_causes, any_unprintable, parse_text, parse_name}

module _ (file : List ℕ) (at size start : ℕ) (e : field limits64 size_causes (drop at file) ≡ parsed size (drop start file)) where
  pub name_missing : length file - start < size → (parse_name today >>= parse_end) (drop at file) ≡ failed 9
  unfolding parse_name parse_text
  name_missing h = rw (e, length-drop, lt-ltb (length file - start) size h)

  module _ (h : size ≤ length file - start) where
    pub name_unprintable : any_unprintable (take size (drop start file)) ≡ true
        → (parse_name today >>= parse_end) (drop at file) ≡ failed 16
    unfolding parse_name parse_text
    name_unprintable u = rw (e, length-drop, le-ltb (length file - start) size h, u)

    module _ (p : any_unprintable (take size (drop start file)) ≡ false) where
      pub name_trails : start + size < length file → (parse_name today >>= parse_end) (drop at file) ≡ failed 17
      unfolding parse_name parse_text parse_end
      name_trails t =
          let left : 0 < length file - (start + size) = omega arith in
          rw (
            e,
            length-drop,
            le-ltb (length file - start) size h,
            p,
            drop-drop,
            length-drop,
            lt-ltb 0 (length file - (start + size)) left,
          )

      pub name_last : length file ≤ start + size → (parse_name today >>= parse_end) (drop at file) ≡ parsed (take size (drop start file)) []
      unfolding parse_name parse_text parse_end
      name_last t =
          rw (
            e,
            length-drop,
            le-ltb (length file - start) size h,
            p,
            drop-drop,
            drop_of_length-le file t,
          )
