-- Document 01's entries on the edges, computed from the definitions.
use mathlib.Core.Path.{refl}
use Rattle.poly.specs.Code.{add, mul, scale, degree}
use Rattle.poly.specs.Division.{inverse, bring_down, divide}
use Rattle.poly.specs.Coprime.{gcd}
use Rattle.poly.specs.Limits.{outside}
use Rattle.poly.specs.Causes.{off_degree, code_causes}
use Rattle.euclid.specs.Chain.{chain}
use Rattle.pairs.specs.Words.{words_from}
use Rattle.pairs.specs.Sequences.{compositions, sequences, block}
use Rattle.pairs.specs.Pairs.{turn, build, pairs}
use Rattle.pairs.specs.Replies.{pair_at_reply}
use Rattle.positions.specs.Replies.{position_reply}
use Rattle.squares.specs.Symbols.{output_cell, symbol}
use Rattle.listing.specs.Replies.{pairs_from, from_reply}
use Rattle.squares.specs.Sheets.{sheet}
use Rattle.squares.specs.Replies.{site_reply, sheet_reply_of, sheet_of, sheet_bytes_of}
use Rattle.walk.specs.Walks.{next_pair, bad_record, look_reply, draw_reply, after_draw}
use Rattle.leb128.specs.Parser.{parse_end}
use Rattle.leb128.specs.Number.{encode_number, parse_number}
use Rattle.trial.specs.Trial.{encode_head, encode_body, encode, parse_coprime, parse_head, parse_text, parse_name, parse_body, parse}
use Rattle.trial.specs.Replies.{content_causes, read, write_reply}
use Rattle.edges.specs.Table.{EdgesClaim}

pub edges : EdgesClaim
unfolding add mul scale degree inverse bring_down divide gcd outside off_degree code_causes
    chain words_from compositions sequences block turn build pairs pair_at_reply
    position_reply pairs_from from_reply output_cell symbol site_reply
    sheet sheet_reply_of sheet_of sheet_bytes_of next_pair bad_record look_reply
    draw_reply after_draw encode_number parse_number encode_head encode_body encode parse_coprime parse_head
    parse_text parse_name parse_end parse_body parse content_causes read write_reply
edges = refl
