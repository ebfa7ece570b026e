use Rattle.std.proofs.Common.{◌≡◌, length, map, subst, sym, ◌∙◌, ap, arith, List}
use Rattle.r4_search.specs.r4_cell.Seen.{node_of}
use Rattle.r4_marking.specs.Marks.{AreSmall, asks_seen, heard_seen, most_for}
use Rattle.r4_marking.specs.declared.demands.Heard.{Heard}
use Rattle.r4_marking.proofs.Children.{heard_few, small_heard}
use Rattle.r4_marking.proofs.asking.note.Goals as goal

pub asks-requires-clause-small : goal.asks-requires-clause-small
asks-requires-clause-small g c = subst (λ (heard : List Heard). AreSmall (most_for c.args.cell.now.level) heard) (sym c.deref.ensures.value) (small_heard (asks_seen c.args.asks.now.entries) (most_for c.args.cell.now.level) (node_of c.args.cell.now).names c.in_ok-heard.heard.items c.in_ok-heard.ensures c.requires)

pub asks-requires-clause-few : goal.asks-requires-clause-few
asks-requires-clause-few g c =
    let told = c.if-level-eq0.false in
    let level = c.level.ensures in
    let few = heard_few c.args.cell.now (asks_seen c.args.asks.now.entries) c.in_ok-heard.heard.items (omega (arith, told, level)) c.in_ok-heard.ensures in
    let same = ap length c.deref.ensures.value in
    omega (arith, few, same)
