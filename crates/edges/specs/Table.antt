-- Document 01's entries on the edges that are marked *, as a single table: what the definitions of the contracts reply, and what the
-- paper says.
use Rattle.std.specs.Prelude.{◌≡◌, ℕ, suc, List, [], ◌∷◌, ◌++◌, map, get_or, length, take, replicate}
use Rattle.reply.specs.Reply.{Reply, served, refused, spent}
use Rattle.poly.specs.Replies.{order_reply, length_reply}
use Rattle.euclid.specs.Replies.{chain_reply, chain_content}
use Rattle.pairs.specs.Replies.{pair_at_reply}
use Rattle.positions.specs.Replies.{position_reply}
use Rattle.listing.specs.Replies.{from_reply}
use Rattle.squares.specs.Replies.{site_reply, sheet_reply, sheet_bytes}
use Rattle.walk.specs.declared.Walk.{Walk}
use Rattle.walk.specs.Walks.{start_reply, started, look_reply, draw_reply, after_draw}
use Rattle.leb128.specs.Parser.{Parsed}
use Rattle.trial.specs.Trial.{Trial, trial_from}
use Rattle.trial.specs.Replies.{read, read_reply, name_read, levels_after, write_reply, file_after}

pub record Case : Type 0 where
  pub computed : Reply
  pub stated : Reply

infix 68 ◌is◌
abbrev pub ◌is◌ : Reply → Reply → Case
◌is◌ reply paper = record { computed = reply; stated = paper }

-- Lengths.
abbrev pub lengths : List Case
lengths =
    length_reply 1 is served (0 ∷ [])
    ∷ length_reply 2 is served (2 ∷ [])
    ∷ length_reply 3 is served (10 ∷ [])
    ∷ length_reply 4 is served (42 ∷ [])
    ∷ []

-- Pairs.
abbrev pub pair_is : ℕ → ℕ → ℕ → ℕ → Case
pair_is n position f g = pair_at_reply n position is served (f ∷ g ∷ [])

abbrev pub degree3 : List Case
degree3 =
    pair_is 3 0 11 9
    ∷ pair_is 3 1 9 11
    ∷ pair_is 3 2 15 13
    ∷ pair_is 3 3 13 15
    ∷ pair_is 3 4 13 9
    ∷ pair_is 3 5 9 13
    ∷ pair_is 3 6 11 13
    ∷ pair_is 3 7 13 11
    ∷ pair_is 3 8 15 11
    ∷ pair_is 3 9 11 15
    ∷ []

abbrev pub degree4 : List Case
degree4 = pair_is 4 0 19 17 ∷ pair_is 4 41 19 25 ∷ pair_at_reply 4 42 is refused 2 ∷ []

-- Chains: the count and the divisor, and what stands in 32 lent numbers, all 0 before.
abbrev pub zeros : ℕ → List ℕ
zeros k = replicate k 0

abbrev pub chains : List Case
chains =
    chain_reply 3 15 11 32 is served (4 ∷ 1 ∷ [])
    ∷ served (chain_content 3 15 11 (zeros 32)) is served (1 ∷ 2 ∷ 3 ∷ 3 ∷ zeros 28)
    ∷ chain_reply 3 15 9 32 is served (3 ∷ 3 ∷ [])
    ∷ served (chain_content 3 15 9 (zeros 32)) is served (1 ∷ 3 ∷ 2 ∷ zeros 29)
    ∷ chain_reply 3 9 9 32 is served (1 ∷ 9 ∷ [])
    ∷ served (chain_content 3 9 9 (zeros 32)) is served (1 ∷ zeros 31)
    ∷ []

-- The squares of the pair (7,5): the sites of a row from a column on, with the symbols of f and of g there.
abbrev pub sites : ℕ → ℕ → List ℕ → List ℕ → List Case
sites row col [] second = []
sites row col (s ∷ first) [] = []
sites row col (s ∷ first) (t ∷ second) = site_reply 2 7 5 row col is served (s ∷ t ∷ []) ∷ sites row (suc col) first second

abbrev pub squares : List Case
squares =
    sites 0 0 (0 ∷ 1 ∷ 3 ∷ 2 ∷ []) (0 ∷ 1 ∷ 2 ∷ 3 ∷ [])
    ++ sites 1 0 (3 ∷ 2 ∷ 0 ∷ 1 ∷ []) (1 ∷ 0 ∷ 3 ∷ 2 ∷ [])
    ++ sites 2 0 (2 ∷ 3 ∷ 1 ∷ 0 ∷ []) (2 ∷ 3 ∷ 0 ∷ 1 ∷ [])
    ++ sites 3 0 (1 ∷ 0 ∷ 2 ∷ 3 ∷ []) (3 ∷ 2 ∷ 1 ∷ 0 ∷ [])

-- The same by the sheet call, in 34 lent bytes, all 0 before: two bytes a site, row by row, and the two behind them stay.
abbrev pub laid : List ℕ
laid =
    0 ∷ 0 ∷ 1 ∷ 1 ∷ 3 ∷ 2 ∷ 2 ∷ 3
    ∷ 3 ∷ 1 ∷ 2 ∷ 0 ∷ 0 ∷ 3 ∷ 1 ∷ 2
    ∷ 2 ∷ 2 ∷ 3 ∷ 3 ∷ 1 ∷ 0 ∷ 0 ∷ 1
    ∷ 1 ∷ 3 ∷ 0 ∷ 2 ∷ 2 ∷ 1 ∷ 3 ∷ 0 ∷ []

abbrev pub sheets : List Case
sheets = sheet_reply 2 7 5 34 is served [] ∷ served (sheet_bytes 2 7 5 (zeros 34)) is served (laid ++ zeros 2) ∷ []

-- Degree 1: the first draw says spent, and leaves degree, position, the bonder's count and the next pair, which is 0 and 0.
abbrev pub fields : Walk → List ℕ
fields walk = walk.degree ∷ walk.position ∷ get_or walk.counts 0 0 ∷ walk.f ∷ walk.g ∷ []

abbrev pub walks : List Case
walks =
    start_reply 1 is served []
    ∷ served (fields (started 1)) is served (1 ∷ 0 ∷ 0 ∷ 0 ∷ 0 ∷ [])
    ∷ look_reply (started 1) is spent
    ∷ draw_reply (started 1) 0 is spent
    ∷ served (fields (after_draw (started 1) 0)) is served (1 ∷ 0 ∷ 0 ∷ 0 ∷ 0 ∷ [])
    ∷ []

-- Degrees 0 and 32, at each call that answers them with 1.
abbrev pub outside_at : ℕ → List Case
outside_at n =
    order_reply n is refused 1
    ∷ length_reply n is refused 1
    ∷ pair_at_reply n 0 is refused 1
    ∷ from_reply n 0 2 is refused 1
    ∷ position_reply n 7 5 is refused 1
    ∷ chain_reply n 7 5 32 is refused 1
    ∷ site_reply n 7 5 0 0 is refused 1
    ∷ start_reply n is refused 1
    ∷ []

-- The trial file.
abbrev pub file : List ℕ
file =
    0x01 ∷ 0x02 ∷ 0x07 ∷ 0x05 ∷ 0x64 ∷ 0x6E ∷ 0x78 ∷ 0x82 ∷ 0x01 ∷ 0xC8 ∷ 0x01 ∷ 0xDC ∷ 0x01 ∷ 0xF0 ∷ 0x01 ∷ 0x84 ∷ 0x02 ∷ 0x01 ∷ 0x41 ∷ []

abbrev pub powers : List ℕ
powers = 100 ∷ 110 ∷ 120 ∷ 130 ∷ []

abbrev pub forces : List ℕ
forces = 200 ∷ 220 ∷ 240 ∷ 260 ∷ []

-- Its content: version 1, degree 2, the pair (7,5), and the name A. What is given for a third code and a third list is left out.
abbrev pub trial : Trial
trial = trial_from 1 2 (7 ∷ 5 ∷ 0 ∷ []) (powers ∷ forces ∷ [] ∷ []) (0x41 ∷ [])

-- What is read, with room for 64 levels in each of three slices.
abbrev pub content : List ℕ → Parsed Trial
content bytes = read (64 ∷ 64 ∷ 64 ∷ []) bytes

abbrev pub reading : List ℕ → Reply
reading bytes = read_reply (length bytes) (content bytes)

abbrev pub files : List Case
files =
    -- degree, f, g, that the name is the one byte at 18, and the version
    reading file is served (2 ∷ 7 ∷ 5 ∷ 18 ∷ 1 ∷ 1 ∷ [])
    ∷ served (name_read (content file)) is served (0x41 ∷ [])
    ∷ served (levels_after 0 (content file) (zeros 64)) is served (powers ++ zeros 60)
    ∷ served (levels_after 1 (content file) (zeros 64)) is served (forces ++ zeros 60)
    ∷ served (levels_after 2 (content file) (zeros 64)) is served (zeros 64)
    ∷ reading (file ++ (0 ∷ [])) is refused 17
    ∷ reading (take 18 file) is refused 9
    ∷ write_reply trial 19 is served (19 ∷ [])
    ∷ served (file_after trial (zeros 19)) is served file
    ∷ []

abbrev pub table : List Case
table = lengths ++ degree3 ++ degree4 ++ chains ++ squares ++ sheets ++ walks ++ outside_at 0 ++ outside_at 32 ++ files

-- All of it as one equation between lists of replies.
abbrev pub EdgesClaim : Type 0
EdgesClaim = map (λ case. case.computed) table ≡ map (λ case. case.stated) table
