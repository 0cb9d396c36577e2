-- Document 01, "Trial file": levels run from 0 to 65535. Which of them may stand in one list is for the rules to say.
use Rattle.std.specs.Prelude.{ℕ, zero, suc, List, [], ◌∷◌, reverse, ltb}
use Rattle.reply.specs.Reply.{Cause, ◌gives◌}
use Rattle.leb128.specs.Parser.{Parser, pure, ◌>>=◌}
use Rattle.leb128.specs.Number.{field}
use Rattle.trial.specs.Rules.{Rules}

-- 13: above 65535; 14: it may not follow those before it, of which the nearest is listed first.
abbrev pub level_causes : Rules → List ℕ → ℕ → List Cause
level_causes rules before level = ltb 65535 level gives 13 ∷ rules.barred before level gives 14 ∷ []

-- A list of levels, of which so many are still to be read; those read before are given, nearest first.
abbrev pub parse_levels : Rules → ℕ → List ℕ → Parser (List ℕ)
parse_levels rules zero before = pure (reverse before)
parse_levels rules (suc count) before =
    field rules.numbers (level_causes rules before) >>= λ level. parse_levels rules count (level ∷ before)
