-- `dw_draw` meets its contract: a draw that is served changes neither the degree nor the marks, and one that is not changes nothing.
use Rattle.console.proofs.Told.{given, draw_moved, draw_unserved}
use Rattle.console.proofs.walks.dw_draw.Goals as goal

pub returns-then-status-eq0 : goal.returns-then-status-eq0
returns-then-status-eq0 c =
    let drawn = c.drawn-drawn.ensures in
    draw_moved (record { answered = given drawn.reply c.store_next-status.ensures; moved = drawn.walk })

pub returns-else-status-eq0 : goal.returns-else-status-eq0
returns-else-status-eq0 c =
    let drawn = c.drawn-drawn.ensures in
    draw_unserved (record { answered = given drawn.reply c.store_next-status.ensures; moved = drawn.walk }) c.if-status-eq0.false
