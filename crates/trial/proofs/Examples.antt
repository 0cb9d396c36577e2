-- Document 01's trial file and its neighbours, a version 2 file, and for each of the numbers 4 and 6 to 17 an input that gets it, where the
-- versions differ for both: all computed.
use mathlib.Core.Path.{◌≡◌, refl}
use Prim.Native.Nat.{ℕ}
use mathlib.Core.List.{List, [], ◌∷◌, ◌++◌, map}
use lib.ListN.{length, replicate}
use Rattle.reply.specs.Reply.{Reply, served, refused}
use Rattle.poly.specs.Code.{add, scale, degree}
use Rattle.poly.specs.Division.{inverse, bring_down, divide}
use Rattle.poly.specs.Coprime.{gcd}
use Rattle.poly.specs.Limits.{outside}
use Rattle.poly.specs.Causes.{off_degree, code_causes}
use Rattle.leb128.specs.Parser.{parsed, failed, parse_end}
use Rattle.leb128.specs.Number.{encode_number, parse_number}
use Rattle.trial.specs.Trial.{Trial, trial_from, encode_head, encode_body, encode, parse_coprime, parse_head, parse_text}
use Rattle.trial.specs.Trial.{parse_name, parse_body, parse_under, parse}
use Rattle.trial.specs.Replies.{content_causes, read, read_reply, write_reply}
use Rattle.trial.specs.Claims.{document01}

abbrev forces_given : List ℕ
forces_given = 200 ∷ 220 ∷ 240 ∷ 260 ∷ []

-- Document 01's content, with the degree, the codes, the powers and the name given.
abbrev content : ℕ → ℕ → ℕ → List ℕ → List ℕ → Trial
content n f g powers name =
    record { head = record { version = 1; degree = n; codes = f ∷ g ∷ [] }; lists = powers ∷ forces_given ∷ []; name = name }

abbrev rising : List ℕ
rising = 100 ∷ 110 ∷ 120 ∷ 130 ∷ []

-- The parts of document 01's file.
abbrev head_bytes : List ℕ
head_bytes = 0x01 ∷ 0x02 ∷ 0x07 ∷ 0x05 ∷ []

abbrev power_bytes : List ℕ
power_bytes = 0x64 ∷ 0x6E ∷ 0x78 ∷ 0x82 ∷ 0x01 ∷ []

abbrev force_bytes : List ℕ
force_bytes = 0xC8 ∷ 0x01 ∷ 0xDC ∷ 0x01 ∷ 0xF0 ∷ 0x01 ∷ 0x84 ∷ 0x02 ∷ []

abbrev with_name : List ℕ → List ℕ
with_name bytes = head_bytes ++ power_bytes ++ force_bytes ++ bytes

encoded : encode (content 2 7 5 rising (0x41 ∷ [])) ≡ with_name (0x01 ∷ 0x41 ∷ [])
unfolding encode encode_body encode_head encode_number
encoded = refl

decoded : parse (with_name (0x01 ∷ 0x41 ∷ [])) ≡ parsed (content 2 7 5 rising (0x41 ∷ [])) []
unfolding parse parse_head parse_coprime parse_body parse_name parse_text parse_end parse_number
    outside off_degree code_causes gcd divide bring_down inverse add scale degree
decoded = refl

-- A version 2 file of degree 3 with the codes 9, 11 and 13.
abbrev first_eight : List ℕ
first_eight = 0 ∷ 1 ∷ 2 ∷ 3 ∷ 4 ∷ 5 ∷ 6 ∷ 7 ∷ []

abbrev second_eight : List ℕ
second_eight = 9 ∷ 8 ∷ 11 ∷ 10 ∷ 13 ∷ 12 ∷ 15 ∷ 14 ∷ []

abbrev head_bytes2 : List ℕ
head_bytes2 = 0x02 ∷ 0x03 ∷ 0x09 ∷ 0x0B ∷ 0x0D ∷ []

abbrev content2 : ℕ → List ℕ → Trial
content2 h times = trial_from 2 3 (9 ∷ 11 ∷ h ∷ []) (first_eight ∷ second_eight ∷ times ∷ []) (0x41 ∷ [])

abbrev with_times : List ℕ → List ℕ
with_times bytes = head_bytes2 ++ first_eight ++ second_eight ++ bytes

encoded2 : encode (content2 13 first_eight) ≡ with_times (first_eight ++ (0x01 ∷ 0x41 ∷ []))
unfolding encode encode_body encode_head encode_number
encoded2 = refl

-- Under document 01's own rules: its file, two equal powers, powers that fall, version 2, five unfinished bytes.
decoded_before : map (parse_under document01)
    (with_name (0x01 ∷ 0x41 ∷ [])
    ∷ (head_bytes ++ (0x64 ∷ 0x64 ∷ []))
    ∷ (head_bytes ++ (0x02 ∷ 0x01 ∷ []))
    ∷ (0x02 ∷ [])
    ∷ replicate 5 0x80
    ∷ [])
    ≡ parsed (content 2 7 5 rising (0x41 ∷ [])) [] ∷ failed 14 ∷ failed 14 ∷ failed 11 ∷ failed 10 ∷ []
unfolding parse_head parse_coprime parse_body parse_name parse_text parse_end parse_number
    outside off_degree code_causes gcd divide bring_down inverse add scale degree
decoded_before = refl

-- A file, the room for the third list of levels, and the reader's reply.
record Reading : Type 0 where
  file : List ℕ
  room : ℕ
  reply : Reply

abbrev reading : List ℕ → Reply → Reading
reading bytes answer = record { file = bytes; room = 64; reply = answer }

-- The lowest number above document 01's ceiling.
abbrev above32 : List ℕ
above32 = 0x80 ∷ 0x80 ∷ 0x80 ∷ 0x80 ∷ 0x10 ∷ []

abbrev readings : List Reading
readings =
    reading (with_name (0x01 ∷ 0x41 ∷ [])) (served (2 ∷ 7 ∷ 5 ∷ 18 ∷ 1 ∷ 1 ∷ []))
    ∷ reading (with_name (0x28 ∷ replicate 40 0x41)) (served (2 ∷ 7 ∷ 5 ∷ 18 ∷ 40 ∷ 1 ∷ []))
    ∷ reading (head_bytes ++ (0x03 ∷ 0x01 ∷ 0x04 ∷ 0x02 ∷ 0x04 ∷ 0x03 ∷ 0x02 ∷ 0x00 ∷ 0x00 ∷ [])) (served (2 ∷ 7 ∷ 5 ∷ 13 ∷ 0 ∷ 1 ∷ []))
    ∷ reading (with_times (first_eight ++ (0x01 ∷ 0x41 ∷ []))) (served (3 ∷ 9 ∷ 11 ∷ 30 ∷ 1 ∷ 2 ∷ 13 ∷ []))
    ∷ record { file = []; room = 63; reply = refused 4 }
    ∷ record { file = with_name (0x01 ∷ 0x41 ∷ []); room = 63; reply = refused 4 }
    ∷ reading (0x01 ∷ 0x02 ∷ 0x08 ∷ []) (refused 6)
    ∷ reading (0x01 ∷ 0x02 ∷ 0x06 ∷ []) (refused 7)
    ∷ reading (0x01 ∷ 0x02 ∷ 0x07 ∷ 0x03 ∷ []) (refused 6)
    ∷ reading (0x01 ∷ 0x02 ∷ 0x07 ∷ 0x04 ∷ []) (refused 7)
    ∷ reading (0x01 ∷ 0x02 ∷ 0x07 ∷ 0x07 ∷ []) (refused 8)
    ∷ reading [] (refused 9)
    ∷ reading (with_name (0x01 ∷ [])) (refused 9)
    ∷ reading (replicate 4 0x80) (refused 9)
    ∷ reading (replicate 9 0x80) (refused 9)
    ∷ reading (replicate 10 0x80) (refused 10)
    ∷ reading (replicate 9 0x80 ++ (0x02 ∷ [])) (refused 10)
    ∷ reading (replicate 9 0x80 ++ (0x00 ∷ [])) (refused 10)
    ∷ reading (0x82 ∷ 0x00 ∷ []) (refused 10)
    ∷ reading (replicate 9 0xFF ++ (0x01 ∷ [])) (refused 11)
    ∷ reading above32 (refused 11)
    ∷ reading (0x01 ∷ above32) (refused 12)
    ∷ reading (0x01 ∷ 0x02 ∷ above32) (refused 6)
    ∷ reading (0x01 ∷ 0x02 ∷ 0x07 ∷ above32) (refused 6)
    ∷ reading (head_bytes ++ above32) (refused 13)
    ∷ reading (with_name above32) (refused 15)
    ∷ reading (0x00 ∷ []) (refused 11)
    ∷ reading (0x03 ∷ []) (refused 11)
    ∷ reading (0x02 ∷ []) (refused 9)
    ∷ reading (0x02 ∷ 0x03 ∷ 0x09 ∷ 0x09 ∷ []) (refused 9)
    ∷ reading (0x02 ∷ 0x03 ∷ 0x09 ∷ 0x09 ∷ 0x03 ∷ []) (refused 6)
    ∷ reading (0x02 ∷ 0x03 ∷ 0x09 ∷ 0x09 ∷ 0x08 ∷ []) (refused 7)
    ∷ reading (0x02 ∷ 0x03 ∷ 0x09 ∷ 0x09 ∷ 0x0B ∷ []) (refused 8)
    ∷ reading (0x02 ∷ 0x03 ∷ 0x09 ∷ 0x0B ∷ 0x09 ∷ []) (refused 8)
    ∷ reading (0x02 ∷ 0x03 ∷ 0x0B ∷ 0x09 ∷ 0x09 ∷ []) (refused 8)
    ∷ reading (with_times (0x10 ∷ 0x80 ∷ 0x80 ∷ 0x04 ∷ [])) (refused 13)
    ∷ reading (with_times (0x10 ∷ [])) (refused 9)
    ∷ reading (with_times (0x10 ∷ 0x10 ∷ [])) (refused 14)
    ∷ reading (0x01 ∷ 0x01 ∷ []) (refused 12)
    ∷ reading (0x01 ∷ 0x07 ∷ []) (refused 12)
    ∷ reading (head_bytes ++ (0x80 ∷ 0x80 ∷ 0x04 ∷ [])) (refused 13)
    ∷ reading (head_bytes ++ (0x64 ∷ 0x64 ∷ [])) (refused 14)
    ∷ reading (head_bytes ++ (0x01 ∷ 0x02 ∷ 0x01 ∷ [])) (refused 14)
    ∷ reading (head_bytes ++ power_bytes ++ (0x02 ∷ 0x01 ∷ [])) (refused 9)
    ∷ reading (head_bytes ++ power_bytes ++ (0x02 ∷ 0x01 ∷ 0x00 ∷ 0x02 ∷ [])) (refused 14)
    ∷ reading (with_name (0x29 ∷ [])) (refused 15)
    ∷ reading (with_name (0x01 ∷ 0x1F ∷ [])) (refused 16)
    ∷ reading (with_name (0x01 ∷ 0x7F ∷ [])) (refused 16)
    ∷ reading (with_name (0x01 ∷ 0x41 ∷ 0x00 ∷ [])) (refused 17)
    ∷ []

reads : map (λ c. read_reply (length c.file) (read (64 ∷ 64 ∷ c.room ∷ []) c.file)) readings ≡ map (λ c. c.reply) readings
unfolding read parse parse_head parse_coprime parse_body parse_name parse_text parse_end parse_number
    outside off_degree code_causes gcd divide bring_down inverse add scale degree
reads = refl

-- A content, the room for the file, and the writer's reply.
record Writing : Type 0 where
  trial : Trial
  room : ℕ
  reply : Reply

abbrev passing : Trial → ℕ → Reply → Writing
passing t space answer = record { trial = t; room = space; reply = answer }

abbrev writing : ℕ → ℕ → ℕ → List ℕ → List ℕ → Reply → Writing
writing n f g levels name answer = passing (content n f g levels name) 19 answer

abbrev writings : List Writing
writings =
    writing 2 7 5 rising (0x41 ∷ []) (served (19 ∷ []))
    ∷ writing 1 7 5 rising (0x41 ∷ []) (refused 12)
    ∷ writing 2 8 5 rising (0x41 ∷ []) (refused 6)
    ∷ writing 2 6 5 rising (0x41 ∷ []) (refused 7)
    ∷ writing 2 7 3 rising (0x41 ∷ []) (refused 6)
    ∷ writing 2 7 4 rising (0x41 ∷ []) (refused 7)
    ∷ writing 2 7 7 rising (0x41 ∷ []) (refused 8)
    ∷ writing 2 7 5 (100 ∷ 110 ∷ 120 ∷ []) (0x41 ∷ []) (refused 4)
    ∷ writing 2 7 5 (100 ∷ 110 ∷ 110 ∷ 130 ∷ []) (0x41 ∷ []) (refused 14)
    ∷ writing 2 7 5 (100 ∷ 110 ∷ 110 ∷ 130 ∷ []) (0x41 ∷ 0x42 ∷ []) (refused 14)
    ∷ writing 2 7 5 (100 ∷ 110 ∷ 120 ∷ 100 ∷ []) (0x41 ∷ []) (refused 14)
    ∷ writing 2 7 5 (120 ∷ 130 ∷ 100 ∷ 110 ∷ []) (0x41 ∷ []) (served (19 ∷ []))
    ∷ writing 2 7 5 rising (replicate 41 0x41) (refused 15)
    ∷ writing 2 7 5 rising (0x7F ∷ []) (refused 16)
    ∷ writing 2 7 5 rising (0x41 ∷ 0x42 ∷ []) (refused 4)
    ∷ passing (trial_from 1 2 (7 ∷ 5 ∷ 0 ∷ []) (rising ∷ forces_given ∷ [] ∷ []) (0x41 ∷ [])) 19 (served (19 ∷ []))
    ∷ passing (trial_from 0 2 (7 ∷ 5 ∷ 0 ∷ []) (rising ∷ forces_given ∷ [] ∷ []) (0x41 ∷ [])) 19 (refused 11)
    ∷ passing (trial_from 3 3 (9 ∷ 11 ∷ 13 ∷ []) (first_eight ∷ second_eight ∷ first_eight ∷ []) []) 31 (refused 11)
    ∷ passing (content2 13 first_eight) 31 (served (31 ∷ []))
    ∷ passing (content2 13 first_eight) 30 (refused 4)
    ∷ passing (content2 3 first_eight) 31 (refused 6)
    ∷ passing (content2 8 first_eight) 31 (refused 7)
    ∷ passing (trial_from 2 3 (9 ∷ 9 ∷ 8 ∷ []) (first_eight ∷ second_eight ∷ first_eight ∷ []) []) 31 (refused 7)
    ∷ passing (content2 9 first_eight) 31 (refused 8)
    ∷ passing (content2 11 first_eight) 31 (refused 8)
    ∷ passing (content2 13 (0 ∷ first_eight)) 31 (refused 4)
    ∷ passing (content2 13 (replicate 8 0)) 31 (refused 14)
    ∷ []

writes : map (λ c. write_reply c.trial c.room) writings ≡ map (λ c. c.reply) writings
unfolding write_reply content_causes encode encode_body encode_head encode_number
    outside off_degree code_causes gcd divide bring_down inverse add scale degree
writes = refl
