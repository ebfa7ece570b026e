use Rattle.r4_serve.specs.Serving.{parts_seen}
use Rattle.r4_serve.proofs.Becoming.{asks_ok, leaves}
use Rattle.r4_serve.proofs.asking.ask_over.Goals as goal

pub returns : goal.returns
returns g c =
    let d = g.E.Device.state in
    let parts = c.args.parts.now in
    let p = parts_seen parts in
    record {
      device = leaves (d c.args.dev) (d c.reach_over-dev.result.0) p c.args.command.now c.reach_over-dev.result.1
          c.reach_over-dev.ensures;
      asks = asks_ok (d c.args.dev) (d c.reach_over-dev.result.0) p c.args.command.now c.reach_over-dev.result.1
          c.answer_to-asked.result c.reach_over-dev.ensures c.answer_to-asked.ensures;
    }
