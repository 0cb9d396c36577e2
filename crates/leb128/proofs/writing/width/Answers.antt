-- `width` meets its contract: the tests are the powers of 128.
use mathlib.Core.Path.{sym}
use native.Mathlib.Omega.{arith}
use lib.Dec.{lit≤}
use Rattle.leb128.proofs.Number.{encode_small, encode_length}
use Rattle.leb128.proofs.writing.width.Goals as goal

pub returns-then-value-lt128 : goal.returns-then-value-lt128
returns-then-value-lt128 c = (rw (encode_small c.args.value c.if-value-lt128.true), lit≤ tt)

pub returns-then-value-lt16384 : goal.returns-then-value-lt16384
returns-then-value-lt16384 c = (sym (encode_length 1 _ c.if-value-lt128.false c.if-value-lt16384.true), lit≤ tt)

pub returns-then-value-lt2097152 : goal.returns-then-value-lt2097152
returns-then-value-lt2097152 c = (sym (encode_length 2 _ c.if-value-lt16384.false c.if-value-lt2097152.true), lit≤ tt)

pub returns-then-value-lt268435456 : goal.returns-then-value-lt268435456
returns-then-value-lt268435456 c = (sym (encode_length 3 _ c.if-value-lt2097152.false c.if-value-lt268435456.true), lit≤ tt)

pub returns-then-value-lt34359738368 : goal.returns-then-value-lt34359738368
returns-then-value-lt34359738368 c = (sym (encode_length 4 _ c.if-value-lt268435456.false c.if-value-lt34359738368.true), lit≤ tt)

pub returns-then-value-lt4398046511104 : goal.returns-then-value-lt4398046511104
returns-then-value-lt4398046511104 c = (sym (encode_length 5 _ c.if-value-lt34359738368.false c.if-value-lt4398046511104.true), lit≤ tt)

pub returns-then-value-lt562949953421312 : goal.returns-then-value-lt562949953421312
returns-then-value-lt562949953421312 c =
    (sym (encode_length 6 _ c.if-value-lt4398046511104.false c.if-value-lt562949953421312.true), lit≤ tt)

pub returns-then-value-lt72057594037927936 : goal.returns-then-value-lt72057594037927936
returns-then-value-lt72057594037927936 c =
    (sym (encode_length 7 _ c.if-value-lt562949953421312.false c.if-value-lt72057594037927936.true), lit≤ tt)

pub returns-then-value-lt9223372036854775808 : goal.returns-then-value-lt9223372036854775808
returns-then-value-lt9223372036854775808 c =
    (sym (encode_length 8 _ c.if-value-lt72057594037927936.false c.if-value-lt9223372036854775808.true), lit≤ tt)

pub returns : goal.returns
returns c = (sym (encode_length 9 _ c.if-value-lt9223372036854775808.false (omega arith)), lit≤ tt)
