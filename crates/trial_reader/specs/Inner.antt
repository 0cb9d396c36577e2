-- Only contracts of functions inside the crate use these definitions: their answers in the words of the parser, with a position of the file
-- standing for the bytes from there on.
use Rattle.std.specs.Prelude.{◌≡◌, ℕ, suc, ◌+◌, ◌≤◌, cond, List, [], ◌∷◌, Option, None, Some, Result, Ok, Err, length, take, drop}
use Rattle.levels.specs.Levels.{repeats}
use Rattle.reply.specs.Numbers.{number_of}
use Rattle.trial_reader.specs.declared.lists.Decoded.{Decoded}
use Rattle.trial_reader.specs.declared.fields.Head.{Head as CodeHead}
use Rattle.trial_reader.specs.declared.names.NamePlace.{NamePlace}
use Rattle.trial_reader.specs.declared.reader.Layout.{Layout}
use Rattle.trial_reader.specs.declared.reader.Content.{Content}
use Rattle.reply.specs.declared.Refusal.{Refusal}
use Rattle.poly.specs.Causes.{code_causes, common_factors}
use Rattle.leb128.specs.Parser.{Parsed, parsed, failed, Parser, pure, ◌>>=◌, barring, parse_end}
use Rattle.leb128.specs.Number.{limits64, field}
use Rattle.trial.specs.Rules.{today}
use Rattle.trial.specs.Levels.{parse_levels}
use Rattle.trial.specs.Trial.{Head, Trial, parse_name, parse_lists}

-- The head with these codes, unless two of them have a common factor.
abbrev pub coprime_head : ℕ → ℕ → List ℕ → Parser Head
coprime_head v n codes = barring (common_factors codes) (pure (record { version = v; degree = n; codes = codes }))

-- The third code of version 2, and the head.
abbrev pub third_code : ℕ → ℕ → ℕ → Parser Head
third_code n f g = field limits64 (code_causes n) >>= λ h. coprime_head 2 n (f ∷ g ∷ h ∷ [])

-- The version by its third code, which version 1 does not have.
abbrev pub version_of : Option ℕ → ℕ
version_of None = 1
version_of (Some h) = 2

abbrev pub codes_from : ℕ → ℕ → Option ℕ → List ℕ
codes_from f g None = f ∷ g ∷ []
codes_from f g (Some h) = f ∷ g ∷ h ∷ []

-- What the reader gives for the third code: 0 where there is none.
abbrev pub code_or_0 : Option ℕ → ℕ
code_or_0 None = 0
code_or_0 (Some h) = h

-- How many of a list of so many levels the third list has.
abbrev pub thirds : Option ℕ → ℕ → ℕ
thirds None count = 0
thirds (Some h) count = count

-- The fields in front of the levels.
abbrev pub head_of : CodeHead → Head
head_of head = record { version = version_of head.h; degree = head.degree; codes = codes_from head.f head.g head.h }

-- The same and the bytes behind them.
abbrev pub head_parsed : List ℕ → Result (CodeHead × ℕ) Refusal → Parsed Head
head_parsed file (Ok (head, next)) = parsed (head_of head) (drop next file)
head_parsed file (Err why) = failed (number_of why)

abbrev pub HeadInside : List ℕ → Result (CodeHead × ℕ) Refusal → Type 0
HeadInside file (Ok (head, next)) = next ≤ length file
HeadInside file (Err why) = Unit

-- The answer is what the parser of a head gives at the position.
pub record HeadRead (parser : Parser Head) (file : List ℕ) (at : ℕ) (r : Result (CodeHead × ℕ) Refusal) : Type 0 where
  pub says : head_parsed file r ≡ parser (drop at file)
  pub inside : HeadInside file r

-- A list of levels, read to the front of a slice, and the bytes behind it.
abbrev pub list_parsed : List ℕ → ℕ → List ℕ → Result ℕ Refusal → Parsed (List ℕ)
list_parsed file count out (Ok next) = parsed (take count out) (drop next file)
list_parsed file count out (Err why) = failed (number_of why)

abbrev pub ListInside : List ℕ → Result ℕ Refusal → Type 0
ListInside file (Ok next) = next ≤ length file
ListInside file (Err why) = Unit

-- The answer, with the slice afterwards, is what the parser of so many levels gives at the position.
pub record ListRead (file : List ℕ) (at count : ℕ) (r : Result ℕ Refusal) (out : List ℕ) : Type 0 where
  pub says : list_parsed file count out r ≡ parse_levels today count [] (drop at file)
  pub inside : ListInside file r

-- The lists that a version has, each so many levels at the front of its slice, and the bytes behind them.
abbrev pub lists_at : Option ℕ → ℕ → List ℕ → List ℕ → List ℕ → List (List ℕ)
lists_at None count powers forces times = take count powers ∷ take count forces ∷ []
lists_at (Some h) count powers forces times = take count powers ∷ take count forces ∷ take count times ∷ []

abbrev pub lists_parsed : List ℕ → List (List ℕ) → Result ℕ Refusal → Parsed (List (List ℕ))
lists_parsed file lists (Ok next) = parsed lists (drop next file)
lists_parsed file lists (Err why) = failed (number_of why)

-- The answer, with the three slices afterwards, is what the parser of the lists gives at the position.
pub record ListsRead (file : List ℕ) (at : ℕ) (h : Option ℕ) (count : ℕ) (r : Result ℕ Refusal) (powers forces times : List ℕ)
    : Type 0 where
  pub says : lists_parsed file (lists_at h count powers forces times) r ≡ parse_lists today count (suc (version_of h)) (drop at file)
  pub inside : ListInside file r

-- The levels at the front of the slice, as many as were read, decide first: the parser refuses by 14 where one is equal to an earlier one.
-- Where they differ, the answer is the parser's.
pub record Decodes (file : List ℕ) (at count : ℕ) (r : Decoded) (out : List ℕ) : Type 0 where
  pub few : r.read ≤ length out
  pub says : cond (repeats (take r.read out)) (failed 14) (list_parsed file count out r.behind)
      ≡ parse_levels today count [] (drop at file)
  pub inside : ListInside file r.behind

-- The name and that nothing stands behind it.
abbrev pub name_parsed : List ℕ → Result NamePlace Refusal → Parsed (List ℕ)
name_parsed file (Ok place) = parsed (take place.size (drop place.start file)) []
name_parsed file (Err why) = failed (number_of why)

-- The name reaches to the end of the file.
abbrev pub NameInside : List ℕ → Result NamePlace Refusal → Type 0
NameInside file (Ok place) = place.start + place.size ≡ length file
NameInside file (Err why) = Unit

pub record NameRead (file : List ℕ) (at : ℕ) (r : Result NamePlace Refusal) : Type 0 where
  pub says : name_parsed file r ≡ (parse_name today >>= parse_end) (drop at file)
  pub inside : NameInside file r

-- The content of an accepted file: its lists, as long as the layout says, at the front of the slices, and its name where it says.
abbrev pub content_of : List ℕ → List ℕ → List ℕ → List ℕ → Layout → Trial
content_of file powers forces times layout =
    let head = layout.head in
    record {
      head = head_of head;
      lists = lists_at head.h layout.count powers forces times;
      name = take layout.size (drop layout.name_at file);
    }

abbrev pub trial_parsed : List ℕ → List ℕ → List ℕ → List ℕ → Result Layout Refusal → Parsed Trial
trial_parsed file powers forces times (Ok layout) = parsed (content_of file powers forces times layout) []
trial_parsed file powers forces times (Err why) = failed (number_of why)

-- No list is longer than 64, and the name reaches to the end of the file.
pub record LayoutInside (file : List ℕ) (layout : Layout) : Type 0 where
  pub few : layout.count ≤ 64
  pub last : layout.name_at + layout.size ≡ length file

abbrev pub TrialInside : List ℕ → Result Layout Refusal → Type 0
TrialInside file (Ok layout) = LayoutInside file layout
TrialInside file (Err why) = Unit

-- The answer, with the slices afterwards, is what the parser of a content gives at the position.
pub record Surveys (parser : Parser Trial) (file : List ℕ) (at : ℕ) (r : Result Layout Refusal) (powers forces times : List ℕ)
    : Type 0 where
  pub says : trial_parsed file powers forces times r ≡ parser (drop at file)
  pub inside : TrialInside file r

-- What the reader gives of an accepted file beside the levels.
abbrev pub content_from : Layout → Content
content_from layout =
    let head = layout.head in
    record {
      degree = head.degree;
      f = head.f;
      g = head.g;
      name_at = layout.name_at;
      size = layout.size;
      version = version_of head.h;
      h = code_or_0 head.h;
    }
