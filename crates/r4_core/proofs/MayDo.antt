-- What is asked for where a command is done whose task is out.
use Rattle.std.proofs.Common.{◌≡◌, ◌+◌, ◌<◌, ◌≤◌, ◌^◌, ◌&&◌, List, length, sym, ◌∙◌, ap, subst, arith}
use Rattle.std.specs.Result.{IfErr, IsErrAnd}
use Rattle.std.specs.Prelude.{Result, Ok, Err, count_by, nat_le}
use Rattle.std.proofs.lemmas.List.{length-map}
use Rattle.std.proofs.lemmas.List.Sums.{count_by-le-length}
use Rattle.std.specs.Arc.{arc_value}
use Rattle.std.specs.Global.{Global}
use Rattle.std.specs.declared.sync.Arc as arc_declared
use Rattle.r4_flushing.specs.r4_accounting.Accounting.{added, is_fresh_less}
use Rattle.r4_flushing.specs.r4_accounting.Putting.{IsPriceable}
use Rattle.r4_atoms.specs.Atoms.{FitTogether, account_of}
use Rattle.r4_atoms.specs.declared.things.Account.{Account}
use Rattle.r4_base.specs.declared.things.AtomNo.{AtomNo}
use Rattle.r4_base.specs.declared.things.ScriptNo.{ScriptNo}
use Rattle.r4_buffer.specs.Seen.{cells_of}
use Rattle.r4_cell.specs.Seen.{CellSeen}
use Rattle.r4_core.specs.Doing.{Becomes, CanDo, change_of}
use Rattle.r4_core.specs.declared.doing.Made.{Made}
use Rattle.r4_flushing.specs.r4_done.Doing.{IsCount, is_less, is_more}
use Rattle.r4_flushing.proofs.r4_done.FewCells.{few_new, fewer_objects, less_cells, less_fresh}
use Rattle.r4_ready.specs.r4_kept.Kept.{IsKept}
use Rattle.r4_ready.specs.r4_kept.Naming.{Naming}
use Rattle.r4_ready.specs.r4_kept.View.{CoreSeen}
use Rattle.r4_outside.specs.Device.{State}
use Rattle.r4_space.specs.Lawful.{IsLawful}
use Rattle.r4_ready.proofs.r4_taking.Fused.{small_account}
use Rattle.r4_turns.specs.declared.out.Out.{Out}
use Rattle.r4_turns.specs.declared.turn.Open.{Open}

-- what holds of an error holds of the result that hands it on
pub handed : {T E : Type 0} (P : E → Type 0) (r : Result T E) (e : E) → IsErrAnd r (λ y. y ≡ e) → P e → IfErr r P
handed P (Ok v) e is holds = tt
handed P (Err y) e is holds = subst P (sym is) holds

pub becomes_of : {D : Type 0} (c : CoreSeen D) (made : Made) (a : AtomNo) (before account : Account)
    (olds news : List (arc_declared.Arc CellSeen Global)) → before ≡ account_of c.atoms a.0 → cells_of olds ≡ made.old
    → news ≡ made.new.items → IsCount c.buffer (cells_of olds) (cells_of news) before account
    → account.born ≡ before.born + made.objects.born → account.gone ≡ before.gone + made.objects.gone
    → Becomes c made a account
becomes_of c made a before account olds news was are_old are_new counts born gone = record {
  counts = subst (λ (x : Account). IsCount c.buffer made.old (cells_of made.new.items) x account) was
      (subst (λ (l : List (arc_declared.Arc CellSeen Global)). IsCount c.buffer made.old (cells_of l) before account)
      are_new (subst (λ (l : List CellSeen). IsCount c.buffer l (cells_of news) before account) are_old counts));
  born = born ∙ ap (λ (x : Account). x.born + made.objects.born) was;
  gone = gone ∙ ap (λ (x : Account). x.gone + made.objects.gone) was;
}

module _ {D : Type 0} (r : Naming) (d : State) (c : CoreSeen D) (k : IsKept r d c) (s : ScriptNo)
    (within : Open) (out : Out) (made : Made) (a : AtomNo) (h : CanDo c s within out made a) where
  abbrev before : Account
  before = account_of c.atoms a.0

  abbrev new : List CellSeen
  new = cells_of made.new.items

  as_many : length new ≡ length made.new.items
  as_many = length-map made.new.items (λ x. arc_value x)

  -- ---- the account

  pub less_there : count_by (is_less c.buffer new) made.old ≤ before.cells
  less_there = less_cells r d c k s within out made.command (change_of made) a h.can h.change

  pub less_fresh_there : count_by (is_fresh_less c.buffer new) made.old ≤ before.fresh
  less_fresh_there = less_fresh r d c k s within out made.command (change_of made) a h.can h.change

  module _ (lawful : IsLawful c.space) where
    small_before : (before.cells ≤ 1048576) × (before.fresh ≤ 1048576)
    small_before = small_account r d c k lawful a.0 h.can.opened

    pub before_small : IsPriceable before
    before_small =
        let cells = small_before.0 in
        let fresh = small_before.1 in
        record { cells = omega (arith, cells); fresh = omega (arith, fresh) }

    new_small : length new ≤ 200000000
    new_small =
        let few = few_new r d c k s within out made.command (change_of made) a h.can h.change in
        omega (arith, few)

    pub fits : length c.trace.entries < 2 ^ 64
        → FitTogether before (added (length made.new.items) made.objects.born made.objects.gone)
    fits entries =
        let cells = small_before.0 in
        let fresh = small_before.1 in
        let few = new_small in
        let many = as_many in
        let objects = fewer_objects r d c k s within out made.command (change_of made) a h.can h.change in
        let born = objects.0 in
        let gone = objects.1 in
        let one_born = h.one_born in
        let one_gone = h.one_gone in
        record {
          cells = omega (arith, cells, few, many);
          fresh = omega (arith, fresh, few, many);
          born = omega (arith, born, one_born, entries);
          gone = omega (arith, gone, one_gone, entries);
        }

    pub after_small : (account : Account) → Becomes c made a account → IsPriceable account
    after_small account is =
        let cells = small_before.0 in
        let fresh = small_before.1 in
        let few = new_small in
        let more = count_by-le-length (is_more c.buffer) new in
        let more_fresh = count_by-le-length (λ (x : CellSeen). is_more c.buffer x && nat_le (2 ^ 63) x.id) new in
        let then = is.counts.cells in
        let then_fresh = is.counts.fresh in
        record {
          cells = omega (arith, cells, few, more, then);
          fresh = omega (arith, fresh, few, more_fresh, then_fresh);
        }
