use Rattle.std.proofs.Common.{◌≡◌, [], ap, sym, ◌∙◌, arith}
use Rattle.std.proofs.lemmas.Option.{same_Some}
use Rattle.r4_base.specs.Key.{rank}
use Rattle.r4_base.proofs.FreshTree.{only}
use Rattle.r4_cell.specs.Seen.{CellSeen}
use Rattle.r4_marking.proofs.r4_patch.Members.{here}
use Rattle.r4_search.specs.Pool.{place_fault}
use Rattle.r4_judging.specs.Judging.{turn}
use Rattle.r4_judging.proofs.Runs.{meant_has}
use Rattle.r4_judging.proofs.named.Named.misfit_at.Goals as goal

pub returns : goal.returns
returns c =
    let cell = c.args.cell.now in
    let (n, at, id) = meant_has c.args.self.now cell.id c.requires.from c.requires.below in
    record {
      cell = cell;
      is = record { among = here cell []; name = n; named = at; id = id; fault = sym (c.in_ok-fault.ensures n at id) };
      id = sym c.id.ensures;
      level = sym c.level.ensures;
      lo = sym c.lo.ensures;
      first = λ d f m.
          let is : d ≡ cell = only cell d m.among in
          let same : c.in_ok-fault.fault ≡ f = same_Some c.in_ok-fault.fault f
          (c.in_ok-fault.ensures m.name m.named (m.id ∙ ap (λ (x : CellSeen). x.id) is)
          ∙ (ap (λ (x : CellSeen). place_fault m.name x) (sym is) ∙ m.fault)) in
          let level : c.level.result ≡ d.level = c.level.ensures ∙ ap (λ (x : CellSeen). x.level) (sym is) in
          let lo : rank c.lo.result ≡ rank d.lo = ap rank (c.lo.ensures ∙ ap (λ (x : CellSeen). x.lo) (sym is)) in
          let e : turn c.level.result (rank c.lo.result) c.in_ok-fault.fault
          ≡ turn d.level (rank d.lo) f = λ i. turn (level i) (lo i) (same i) in
          omega (arith, e);
    }
