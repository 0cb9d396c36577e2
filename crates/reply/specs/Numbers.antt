-- Document 01, "Turned down, by who can cause it", and document 02: the number of each refusal.
use Rattle.std.specs.Prelude.{ℕ}
use Rattle.reply.specs.declared.Refusal.{Refusal}
use Rattle.reply.specs.declared.Refusal.TheVariants.{DegreeRange, PositionRange, WalkRecord, SliceLength, SiteRange}
use Rattle.reply.specs.declared.Refusal.TheVariants.{CodeDegree, ConstantTerm, CommonFactor}
use Rattle.reply.specs.declared.Refusal.TheVariants.{FileEnds, NumberForm, Version, SheetDegree, LevelRange, LevelRepeated}
use Rattle.reply.specs.declared.Refusal.TheVariants.{NameLength, NameByte, TrailingBytes}
use Rattle.reply.specs.declared.Refusal.TheVariants.{MarkRange, MarkEmpty, BonderRange, BonderFull}
use Rattle.reply.specs.declared.Refusal.TheVariants.{OrderRange, SymbolRange, NotGraecoLatin}
use Rattle.reply.specs.declared.Refusal.TheVariants.{SavedKind, CountRange}

abbrev pub number_of : Refusal → ℕ
-- degree outside 1 to 31 (sheet, list of triples: 12 instead)
number_of DegreeRange = 1
-- position not below the length of the list of pairs; in the second list, entry not below half that length (document 02, request b)
number_of PositionRange = 2
-- walk record with degree outside 1 to 31, position above the length, a set mark beyond the length (document 02, request c), or a count
-- above 1000000000000000000 (document 02, request g)
number_of WalkRecord = 3
-- a lent slice too short; for the writer also a level list not of length 2^n
number_of SliceLength = 4
-- row or column not below 2^n
number_of SiteRange = 5
-- code not of degree n
number_of CodeDegree = 6
-- constant term 0
number_of ConstantTerm = 7
-- common factor, of two codes or of any two of three (document 02, request e)
number_of CommonFactor = 8
-- file, of a trial or of a saved walk (document 02, request i), ends inside a number or name, or before a field
number_of FileEnds = 9
-- number longer than ten bytes, above 18446744073709551615, or with a needless last byte 0 (document 02, request i)
number_of NumberForm = 10
-- version neither 1 nor 2 (document 02, request e)
number_of Version = 11
-- degree outside 2 to 6, of a trial file, a sheet or the list of triples (document 02, request f)
number_of SheetDegree = 12
-- level above 65535 (reader only)
number_of LevelRange = 13
-- level equal to an earlier one of its list (document 02, request a)
number_of LevelRepeated = 14
-- name longer than 40 bytes
number_of NameLength = 15
-- name byte outside 32 to 126
number_of NameByte = 16
-- bytes after the name, or after the last number of a saved walk (document 02, request i)
number_of TrailingBytes = 17
-- mark above 7 (document 02, request c)
number_of MarkRange = 18
-- going back to an empty mark (document 02, request c)
number_of MarkEmpty = 19
-- bonder above 7 (document 02, request g)
number_of BonderRange = 20
-- the bonder's count is 1000000000000000000 and a pair is there to give (document 02, request g)
number_of BonderFull = 21
-- order of a sheet made elsewhere outside 3 to 64 (document 02, request l)
number_of OrderRange = 26
-- a symbol of such a sheet not below its order (document 02, request l)
number_of SymbolRange = 27
-- a sheet with a row or a column that is no permutation of the symbols, or with a pair of symbols that has not exactly one site: not two
-- orthogonal Latin squares (document 02, request l)
number_of NotGraecoLatin = 28
-- kind of a saved walk neither 1 nor 2 (document 02, request i)
number_of SavedKind = 22
-- a count of a saved walk above 1000000000000000000 (document 02, request i)
number_of CountRange = 23
