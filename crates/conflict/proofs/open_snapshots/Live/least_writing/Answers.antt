use Rattle.std.proofs.Common.{◌+◌, false, ◌∙◌, ap, sym, drop}
use Rattle.std.proofs.Math.ListN.{drop_of_length-le}
use Rattle.conflict.specs.Live.{LiveState, least_writing}
use Rattle.conflict.proofs.Least.{least_next}
use Rattle.conflict.proofs.open_snapshots.Live.least_writing.Goals as goal

pub loop-live-init : goal.loop-live-init
loop-live-init c =
    ap (least_writing c.args.newest) c.deref-live-items.ensures.value
    ∙ ap (λ (s : LiveState). least_writing c.args.newest s.snapshots) c.self.view_is

pub loop-live-preserved : goal.loop-live-preserved
loop-live-preserved c =
    ap (λ n. least_writing n (drop (c.loop-live.live-index + 1) c.deref-live-items.result.now))
    c.least_with-least.ensures
    ∙ least_next c.loop-live.least c.deref-live-items.result.now c.loop-live.live-index
    (record { begin_number = 0; snapshot = 0; read_only = false }) c.loop-live-test.true
    ∙ c.loop-live.invariant

pub returns : goal.returns
returns c =
    ap (least_writing c.loop-live.least)
    (sym (drop_of_length-le c.deref-live-items.result.now c.loop-live-test.false))
    ∙ c.loop-live.invariant
