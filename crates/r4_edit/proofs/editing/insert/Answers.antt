use Rattle.std.proofs.Common.{◌≡◌, ◌++◌, ℕ, sym, ap, subst, ◌∙◌, arith}
use Rattle.std.specs.Prelude.{map, reverse}
use Rattle.std.specs.Arc.{arc_value}
use Rattle.std.proofs.lemmas.List.{append-nil}
use Rattle.std.proofs.lemmas.Result.{IfOk-weaker}
use Rattle.r4_path.specs.r4_cell.Patch.{IsChange, patch_of}
use Rattle.r4_path.specs.r4_cell.Seen.{CellSeen}
use Rattle.r4_path.specs.r4_patch.Part.{MeetsPart}
use Rattle.r4_edit.specs.Editing.{given_item}
use Rattle.r4_edit.specs.Extents.{IsOverUp, IsSpreadUp, PutsOverUp, SpreadsUp, item_blocks}
use Rattle.r4_path.specs.Grafts.{AreBlocksOf}
use Rattle.r4_edit.proofs.PutKinds.{into_kind, into_of, leaf_given, leaf_kind, leaf_put_of, no_cells, no_item_blocks, over_kind, over_of, spread_level, spread_of}
use Rattle.r4_edit.proofs.editing.insert.Goals as goal

pub returns-then-of_leaf-clause-meets : goal.returns-then-of_leaf-clause-meets
returns-then-of_leaf-clause-meets c =
    let plugin = c.if-plugin-eq-EXTENT.true in
    let one = c.if-of_leaf.true in
    let seen = c.level-of_leaf.ensures ∙ ap (λ (x : CellSeen). x.level) c.deref.ensures in
    IfOk-weaker c.put_over.result _ _ (λ d meets t r blocks is of.
    meets t r blocks (subst (λ (n : ℕ). IsOverUp t r (given_item c.args.key.now n c.args.body.now) c.args.fresh.now (reverse (map arc_value c.args.path.now))) plugin (over_of arc_value c.args.path.now c.index-path-path.result c.index-path-path.is t r (given_item c.args.key.now c.args.plugin c.args.body.now) c.args.fresh.now is plugin (omega (arith, one, seen))))
    (subst (λ (n : ℕ). AreBlocksOf (item_blocks (given_item c.args.key.now n c.args.body.now)) blocks) plugin of)) c.put_over.ensures.meets

pub returns-then-plugin-eq-EXTENT-clause-meets : goal.returns-then-plugin-eq-EXTENT-clause-meets
returns-then-plugin-eq-EXTENT-clause-meets c =
    let plugin = c.if-plugin-eq-EXTENT.true in
    let other = c.if-of_leaf.false in
    let seen = c.level-of_leaf.ensures ∙ ap (λ (x : CellSeen). x.level) c.deref.ensures in
    IfOk-weaker c.put_extent.result _ _ (λ d meets t r blocks is of.
    meets t r blocks (subst (λ (n : ℕ). IsSpreadUp t r (given_item c.args.key.now n c.args.body.now) c.args.fresh.now (reverse (map arc_value c.args.path.now))) plugin (spread_of arc_value c.args.path.now c.index-path-path.result c.index-path-path.is t r (given_item c.args.key.now c.args.plugin c.args.body.now) c.args.fresh.now is plugin (λ one. omega (arith, one, other, seen))))
    (subst (λ (n : ℕ). AreBlocksOf (item_blocks (given_item c.args.key.now n c.args.body.now)) blocks) plugin of)) c.put_extent.ensures.meets

pub returns-then-of_leaf-2-clause-change : goal.returns-then-of_leaf-2-clause-change
returns-then-of_leaf-2-clause-change c =
    let (t, (r, is)) = c.requires.path in
    let other = c.if-plugin-eq-EXTENT.false in
    let one = c.if-of_leaf-2.true in
    let seen = c.level-of_leaf.ensures ∙ ap (λ (x : CellSeen). x.level) c.deref.ensures in
    let into = into_of arc_value c.args.path.now c.index-path-path.result c.index-path-path.is t r (given_item c.args.key.now c.args.plugin c.args.body.now) c.args.fresh.now is (λ e. omega (arith, e, other)) (omega (arith, one, seen)) in
    IfOk-weaker c.put_into.result _ _ (λ d change blocks of.
    let none = no_cells blocks (subst (λ ns. AreBlocksOf ns blocks) (no_item_blocks (given_item c.args.key.now c.args.plugin c.args.body.now) into.given) of) in
    subst (λ new. IsChange d.old new d.root) (sym (ap (λ xs. d.new ++ xs) none ∙ append-nil d.new)) change) c.put_into.ensures.change

pub returns-then-of_leaf-2-clause-meets : goal.returns-then-of_leaf-2-clause-meets
returns-then-of_leaf-2-clause-meets c =
    let other = c.if-plugin-eq-EXTENT.false in
    let one = c.if-of_leaf-2.true in
    let seen = c.level-of_leaf.ensures ∙ ap (λ (x : CellSeen). x.level) c.deref.ensures in
    IfOk-weaker c.put_into.result _ _ (λ d meets t r blocks is of.
    let into = into_of arc_value c.args.path.now c.index-path-path.result c.index-path-path.is t r (given_item c.args.key.now c.args.plugin c.args.body.now) c.args.fresh.now is (λ e. omega (arith, e, other)) (omega (arith, one, seen)) in
    let none = no_cells blocks (subst (λ ns. AreBlocksOf ns blocks) (no_item_blocks (given_item c.args.key.now c.args.plugin c.args.body.now) into.given) of) in
    subst (λ new. MeetsPart (patch_of d.old new d.root) t r) (sym (ap (λ xs. d.new ++ xs) none ∙ append-nil d.new)) (meets t r into.inserts)) c.put_into.ensures.meets

pub returns-clause-change : goal.returns-clause-change
returns-clause-change c =
    let (t, (r, is)) = c.requires.path in
    let other = c.if-plugin-eq-EXTENT.false in
    let not_one = c.if-of_leaf-2.false in
    let seen = c.level-of_leaf.ensures ∙ ap (λ (x : CellSeen). x.level) c.deref.ensures in
    let given = leaf_given arc_value c.args.path.now c.index-path-path.result c.index-path-path.is t r (given_item c.args.key.now c.args.plugin c.args.body.now) c.args.fresh.now (leaf_put_of arc_value c.args.path.now c.index-path-path.result c.index-path-path.is t r (given_item c.args.key.now c.args.plugin c.args.body.now) c.args.fresh.now is (λ e. omega (arith, e, other)) (λ e. omega (arith, e, not_one, seen))) in
    IfOk-weaker c.put_leaf.result _ _ (λ d change blocks of.
    let none = no_cells blocks (subst (λ ns. AreBlocksOf ns blocks) (no_item_blocks (given_item c.args.key.now c.args.plugin c.args.body.now) given) of) in
    subst (λ new. IsChange d.old new d.root) (sym (ap (λ xs. d.new ++ xs) none ∙ append-nil d.new)) change) c.put_leaf.ensures.change

pub returns-clause-meets : goal.returns-clause-meets
returns-clause-meets c =
    let other = c.if-plugin-eq-EXTENT.false in
    let not_one = c.if-of_leaf-2.false in
    let seen = c.level-of_leaf.ensures ∙ ap (λ (x : CellSeen). x.level) c.deref.ensures in
    IfOk-weaker c.put_leaf.result _ _ (λ d meets t r blocks is of.
    let put = leaf_put_of arc_value c.args.path.now c.index-path-path.result c.index-path-path.is t r (given_item c.args.key.now c.args.plugin c.args.body.now) c.args.fresh.now is (λ e. omega (arith, e, other)) (λ e. omega (arith, e, not_one, seen)) in
    let given = leaf_given arc_value c.args.path.now c.index-path-path.result c.index-path-path.is t r (given_item c.args.key.now c.args.plugin c.args.body.now) c.args.fresh.now put in
    let none = no_cells blocks (subst (λ ns. AreBlocksOf ns blocks) (no_item_blocks (given_item c.args.key.now c.args.plugin c.args.body.now) given) of) in
    subst (λ new. MeetsPart (patch_of d.old new d.root) t r) (sym (ap (λ xs. d.new ++ xs) none ∙ append-nil d.new)) (meets t r put)) c.put_leaf.ensures.meets

pub returns-then-of_leaf-clause-into : goal.returns-then-of_leaf-clause-into
returns-then-of_leaf-clause-into c =
    let plugin = c.if-plugin-eq-EXTENT.true in
    IfOk-weaker c.put_over.result _ _ (λ d change t r is. absurd ((into_kind arc_value c.args.path.now c.index-path-path.result c.index-path-path.is t r (given_item c.args.key.now c.args.plugin c.args.body.now) c.args.fresh.now is).0 plugin)) c.put_over.ensures.change

pub returns-then-of_leaf-clause-spreads : goal.returns-then-of_leaf-clause-spreads
returns-then-of_leaf-clause-spreads c =
    let level = c.if-of_leaf.true in
    let seen = c.level-of_leaf.ensures ∙ ap (λ (x : CellSeen). x.level) c.deref.ensures in
    IfOk-weaker c.put_over.result _ _ (λ d change t r is. let kind = (spread_level arc_value c.args.path.now c.index-path-path.result c.index-path-path.is t r (given_item c.args.key.now c.args.plugin c.args.body.now) c.args.fresh.now is).1 in absurd (omega (arith, kind, level, seen))) c.put_over.ensures.change

pub returns-then-of_leaf-clause-over : goal.returns-then-of_leaf-clause-over
returns-then-of_leaf-clause-over c =
    let plugin : c.args.plugin ≡ 5 = c.if-plugin-eq-EXTENT.true in
    IfOk-weaker c.put_over.result _ _ (λ d over t r is.
    subst (λ (n : ℕ). PutsOverUp (map arc_value c.args.path.now) (given_item c.args.key.now n c.args.body.now) c.args.fresh.now c.put_over.new.fresh d (reverse (map arc_value c.args.path.now))) (sym plugin) over) c.put_over.ensures.over

pub returns-then-of_leaf-clause-apart : goal.returns-then-of_leaf-clause-apart
returns-then-of_leaf-clause-apart c =
    let plugin = c.if-plugin-eq-EXTENT.true in
    IfOk-weaker c.put_over.result _ _ (λ d change t r is. absurd ((leaf_kind arc_value c.args.path.now c.index-path-path.result c.index-path-path.is t r (given_item c.args.key.now c.args.plugin c.args.body.now) c.args.fresh.now is).0 plugin)) c.put_over.ensures.change

pub returns-then-plugin-eq-EXTENT-clause-into : goal.returns-then-plugin-eq-EXTENT-clause-into
returns-then-plugin-eq-EXTENT-clause-into c =
    let plugin = c.if-plugin-eq-EXTENT.true in
    IfOk-weaker c.put_extent.result _ _ (λ d change t r is. absurd ((into_kind arc_value c.args.path.now c.index-path-path.result c.index-path-path.is t r (given_item c.args.key.now c.args.plugin c.args.body.now) c.args.fresh.now is).0 plugin)) c.put_extent.ensures.change

pub returns-then-plugin-eq-EXTENT-clause-spreads : goal.returns-then-plugin-eq-EXTENT-clause-spreads
returns-then-plugin-eq-EXTENT-clause-spreads c =
    let plugin : c.args.plugin ≡ 5 = c.if-plugin-eq-EXTENT.true in
    IfOk-weaker c.put_extent.result _ _ (λ d spreads t r is.
    subst (λ (n : ℕ). SpreadsUp (map arc_value c.args.path.now) (given_item c.args.key.now n c.args.body.now) c.args.fresh.now c.put_extent.new.fresh d (reverse (map arc_value c.args.path.now))) (sym plugin) spreads) c.put_extent.ensures.spreads

pub returns-then-plugin-eq-EXTENT-clause-over : goal.returns-then-plugin-eq-EXTENT-clause-over
returns-then-plugin-eq-EXTENT-clause-over c =
    let level = c.if-of_leaf.false in
    let seen = c.level-of_leaf.ensures ∙ ap (λ (x : CellSeen). x.level) c.deref.ensures in
    IfOk-weaker c.put_extent.result _ _ (λ d change t r is. let kind = (over_kind arc_value c.args.path.now c.index-path-path.result c.index-path-path.is t r (given_item c.args.key.now c.args.plugin c.args.body.now) c.args.fresh.now is).1 in absurd (omega (arith, kind, level, seen))) c.put_extent.ensures.change

pub returns-then-plugin-eq-EXTENT-clause-apart : goal.returns-then-plugin-eq-EXTENT-clause-apart
returns-then-plugin-eq-EXTENT-clause-apart c =
    let plugin = c.if-plugin-eq-EXTENT.true in
    IfOk-weaker c.put_extent.result _ _ (λ d change t r is. absurd ((leaf_kind arc_value c.args.path.now c.index-path-path.result c.index-path-path.is t r (given_item c.args.key.now c.args.plugin c.args.body.now) c.args.fresh.now is).0 plugin)) c.put_extent.ensures.change

pub returns-then-of_leaf-2-clause-into : goal.returns-then-of_leaf-2-clause-into
returns-then-of_leaf-2-clause-into c =
    IfOk-weaker c.put_into.result _ _ (λ d inserts t r is. inserts) c.put_into.ensures.inserts

pub returns-then-of_leaf-2-clause-spreads : goal.returns-then-of_leaf-2-clause-spreads
returns-then-of_leaf-2-clause-spreads c =
    let plugin = c.if-plugin-eq-EXTENT.false in
    IfOk-weaker c.put_into.result _ _ (λ d change t r is. let five = (spread_level arc_value c.args.path.now c.index-path-path.result c.index-path-path.is t r (given_item c.args.key.now c.args.plugin c.args.body.now) c.args.fresh.now is).0 in absurd (omega (arith, five, plugin))) c.put_into.ensures.change

pub returns-then-of_leaf-2-clause-over : goal.returns-then-of_leaf-2-clause-over
returns-then-of_leaf-2-clause-over c =
    let plugin = c.if-plugin-eq-EXTENT.false in
    IfOk-weaker c.put_into.result _ _ (λ d change t r is. let five = (over_kind arc_value c.args.path.now c.index-path-path.result c.index-path-path.is t r (given_item c.args.key.now c.args.plugin c.args.body.now) c.args.fresh.now is).0 in absurd (omega (arith, five, plugin))) c.put_into.ensures.change

pub returns-then-of_leaf-2-clause-apart : goal.returns-then-of_leaf-2-clause-apart
returns-then-of_leaf-2-clause-apart c =
    let level = c.if-of_leaf-2.true in
    let seen = c.level-of_leaf.ensures ∙ ap (λ (x : CellSeen). x.level) c.deref.ensures in
    IfOk-weaker c.put_into.result _ _ (λ d change t r is. let kind = (leaf_kind arc_value c.args.path.now c.index-path-path.result c.index-path-path.is t r (given_item c.args.key.now c.args.plugin c.args.body.now) c.args.fresh.now is).1 in absurd (omega (arith, kind, level, seen))) c.put_into.ensures.change

pub returns-clause-into : goal.returns-clause-into
returns-clause-into c =
    let level = c.if-of_leaf-2.false in
    let seen = c.level-of_leaf.ensures ∙ ap (λ (x : CellSeen). x.level) c.deref.ensures in
    IfOk-weaker c.put_leaf.result _ _ (λ d change t r is. let kind = (into_kind arc_value c.args.path.now c.index-path-path.result c.index-path-path.is t r (given_item c.args.key.now c.args.plugin c.args.body.now) c.args.fresh.now is).1 in absurd (omega (arith, kind, level, seen))) c.put_leaf.ensures.change

pub returns-clause-spreads : goal.returns-clause-spreads
returns-clause-spreads c =
    let plugin = c.if-plugin-eq-EXTENT.false in
    IfOk-weaker c.put_leaf.result _ _ (λ d change t r is. let five = (spread_level arc_value c.args.path.now c.index-path-path.result c.index-path-path.is t r (given_item c.args.key.now c.args.plugin c.args.body.now) c.args.fresh.now is).0 in absurd (omega (arith, five, plugin))) c.put_leaf.ensures.change

pub returns-clause-over : goal.returns-clause-over
returns-clause-over c =
    let plugin = c.if-plugin-eq-EXTENT.false in
    IfOk-weaker c.put_leaf.result _ _ (λ d change t r is. let five = (over_kind arc_value c.args.path.now c.index-path-path.result c.index-path-path.is t r (given_item c.args.key.now c.args.plugin c.args.body.now) c.args.fresh.now is).0 in absurd (omega (arith, five, plugin))) c.put_leaf.ensures.change

pub returns-clause-apart : goal.returns-clause-apart
returns-clause-apart c =
    IfOk-weaker c.put_leaf.result _ _ (λ d apart t r is. apart) c.put_leaf.ensures.apart
