-- No refusal has the number 0, which says served.
use mathlib.Core.Path.{◌≡◌, refl}
use mathlib.Core.Bool.{false}
use lib.Dec.{eqb}
use Rattle.reply.specs.Numbers.{number_of}
use Rattle.reply.specs.declared.Refusal.{Refusal}
use Rattle.reply.specs.declared.Refusal.TheVariants.{DegreeRange, PositionRange, WalkRecord, SliceLength, SiteRange}
use Rattle.reply.specs.declared.Refusal.TheVariants.{CodeDegree, ConstantTerm, CommonFactor}
use Rattle.reply.specs.declared.Refusal.TheVariants.{FileEnds, NumberForm, Version, SheetDegree, LevelRange, LevelRepeated}
use Rattle.reply.specs.declared.Refusal.TheVariants.{NameLength, NameByte, TrailingBytes}
use Rattle.reply.specs.declared.Refusal.TheVariants.{MarkRange, MarkEmpty, BonderRange, BonderFull}
use Rattle.reply.specs.declared.Refusal.TheVariants.{OrderRange, SymbolRange, NotGraecoLatin}
use Rattle.reply.specs.declared.Refusal.TheVariants.{SavedKind, CountRange}

pub not_0 : (why : Refusal) → eqb (number_of why) 0 ≡ false
not_0 DegreeRange = refl
not_0 PositionRange = refl
not_0 WalkRecord = refl
not_0 SliceLength = refl
not_0 SiteRange = refl
not_0 CodeDegree = refl
not_0 ConstantTerm = refl
not_0 CommonFactor = refl
not_0 FileEnds = refl
not_0 NumberForm = refl
not_0 Version = refl
not_0 SheetDegree = refl
not_0 LevelRange = refl
not_0 LevelRepeated = refl
not_0 NameLength = refl
not_0 NameByte = refl
not_0 TrailingBytes = refl
not_0 MarkRange = refl
not_0 MarkEmpty = refl
not_0 BonderRange = refl
not_0 BonderFull = refl
not_0 OrderRange = refl
not_0 SymbolRange = refl
not_0 NotGraecoLatin = refl
not_0 SavedKind = refl
not_0 CountRange = refl
