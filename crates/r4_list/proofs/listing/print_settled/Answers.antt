use Rattle.std.proofs.Common.{◌≡◌, ◌<◌, ◌∙◌, [], ℕ, Bool, inr, sym, ap, subst, refl, arith}
use Rattle.r4_base.specs.Layout.{IsLawfulSuper}
use Rattle.r4_base.specs.declared.superblock.Super40.{Super40}
use Rattle.r4_outside.specs.Device.{TellsReads}
use Rattle.r4_replay.specs.declared.log.Log.{Log}
use Rattle.r4_open.specs.Opening.{IsSettledBy}
use Rattle.r4_list.proofs.ListingText.{fresh_over, text_stopped, text_well}
use Rattle.r4_cell.specs.declared.change.Root.{Root}
use Rattle.r4_list.specs.Lists.{IsPrintCause}
use Rattle.r4_search.specs.Path.{root_name}
use Rattle.std.proofs.lemmas.List.Elements.{All-nil}
use Rattle.r4_search.specs.Keeping.{keeping_state}
use Rattle.r4_search.specs.OnDevice.{device_state}
use Rattle.r4_list.specs.Over.{IsOver}
use Rattle.r4_list.specs.Pool.{settled_places}
use Rattle.r4_list.proofs.Listings.{RefusesWell, print_cause}
use Rattle.r4_list.proofs.Refusals.{refuses_well}
use Rattle.r4_list.proofs.listing.print_settled.Goals as goal

pub print_path-printed-requires-clause-known : goal.print_path-printed-requires-clause-known
print_path-printed-requires-clause-known g c = record {
  stands = inr (subst (λ (n : ℕ). c.args.found.now.root_block < n) (sym (ap (λ x. x.blocks) c.nodes-nodes.ensures.pool ∙ c.new-cells.ensures.blocks)) c.requires.lawful.root.1);
  named = record { cells = []; all = All-nil _; lead = ap root_name (sym (ap (λ x. x.root) c.nodes-nodes.ensures.pool ∙ c.new-cells.ensures.root)) };
}

pub returns-in-Err-clause-text : goal.returns-in-Err-clause-text
returns-in-Err-clause-text g c = λ n image m has tells same settled super text listing.
    let d = g.E.Device.state in
    let keep = c.nodes-nodes.ensures in
    let nodes = c.nodes-nodes.result.pool in
    let met = c.nodes-nodes.result.met.entries in
    let here_device = ap (λ x. x.dev) keep.pool ∙ c.new-cells.ensures.device in
    let here_log = ap (λ x. x.log) keep.pool ∙ c.new-cells.ensures.log in
    let here_root = ap (λ x. x.root) keep.pool ∙ c.new-cells.ensures.root in
    let here_blocks = ap (λ x. x.blocks) keep.pool ∙ c.new-cells.ensures.blocks in
    let told = subst (λ x. TellsReads (d x)) (sym here_device) tells in
    let size = subst (λ x. n ≡ (d x).blocks) (sym here_device) same in
    let homes = subst (λ (l : Log). IsSettledBy (d nodes.dev) l.homes image) (sym here_log) (subst (λ x. IsSettledBy (d x) c.args.log.homes image) (sym here_device) settled) in
    let lawful = subst (λ x. IsLawfulSuper (d x).blocks has.super) (sym here_device) (subst (λ (s : Super40). IsLawfulSuper (d c.args.dev).blocks s) (sym super) c.requires.lawful) in
    let low = c.requires.lawful.height.1 in
    let high = ap (λ (s : Super40). s.tree_height) super in
    let fresh = fresh_over has (d nodes.dev) nodes.log.homes nodes.blocks met (root_name nodes.root) _ told size homes lawful (here_blocks ∙ ap (λ (s : Super40). s.block_count) (sym super)) (ap (λ (s : Super40). s.root_block) (sym super)) (omega (arith, low, high)) keep.empty in
    let root : Root = record { id = record { 0 = c.args.found.now.root_block }; height = c.args.found.now.tree_height } in
    let over = subst (λ (all : Bool). IsOver has root (keeping_state (device_state (settled_places (root_name nodes.root) nodes.log.homes nodes.blocks) (d nodes.dev)) all met)) (sym keep.nodes) fresh in
    text_stopped has _ text _ _ _ c.in-Err.stop _ _ c.fault_of-fault.result _ refl c.fault_of-fault.ensures (c.in-Err.ensures.over n image m has over text listing)

pub returns-clause-text : goal.returns-clause-text
returns-clause-text g c = λ n image m has tells same settled super text listing.
    let d = g.E.Device.state in
    let keep = c.nodes-nodes.ensures in
    let nodes = c.nodes-nodes.result.pool in
    let met = c.nodes-nodes.result.met.entries in
    let here_device = ap (λ x. x.dev) keep.pool ∙ c.new-cells.ensures.device in
    let here_log = ap (λ x. x.log) keep.pool ∙ c.new-cells.ensures.log in
    let here_root = ap (λ x. x.root) keep.pool ∙ c.new-cells.ensures.root in
    let here_blocks = ap (λ x. x.blocks) keep.pool ∙ c.new-cells.ensures.blocks in
    let told = subst (λ x. TellsReads (d x)) (sym here_device) tells in
    let size = subst (λ x. n ≡ (d x).blocks) (sym here_device) same in
    let homes = subst (λ (l : Log). IsSettledBy (d nodes.dev) l.homes image) (sym here_log) (subst (λ x. IsSettledBy (d x) c.args.log.homes image) (sym here_device) settled) in
    let lawful = subst (λ x. IsLawfulSuper (d x).blocks has.super) (sym here_device) (subst (λ (s : Super40). IsLawfulSuper (d c.args.dev).blocks s) (sym super) c.requires.lawful) in
    let low = c.requires.lawful.height.1 in
    let high = ap (λ (s : Super40). s.tree_height) super in
    let fresh = fresh_over has (d nodes.dev) nodes.log.homes nodes.blocks met (root_name nodes.root) _ told size homes lawful (here_blocks ∙ ap (λ (s : Super40). s.block_count) (sym super)) (ap (λ (s : Super40). s.root_block) (sym super)) (omega (arith, low, high)) keep.empty in
    let root : Root = record { id = record { 0 = c.args.found.now.root_block }; height = c.args.found.now.tree_height } in
    let over = subst (λ (all : Bool). IsOver has root (keeping_state (device_state (settled_places (root_name nodes.root) nodes.log.homes nodes.blocks) (d nodes.dev)) all met)) (sym keep.nodes) fresh in
    text_well has _ text _ _ _ _ _ (c.in_default.ensures.over n image m has over text listing)

pub returns-in-Err-clause-cause : goal.returns-in-Err-clause-cause
returns-in-Err-clause-cause g c =
    let d = g.E.Device.state in
    let k = g.K.Sink.state in
    let keep = c.nodes-nodes.ensures in
    let nodes = c.nodes-nodes.result.pool in
    let met = c.nodes-nodes.result.met.entries in
    let here_device = ap (λ x. x.dev) keep.pool ∙ c.new-cells.ensures.device in
    let here_log = ap (λ x. x.log) keep.pool ∙ c.new-cells.ensures.log in
    let here_root = ap (λ x. x.root) keep.pool ∙ c.new-cells.ensures.root in
    let here_blocks = ap (λ x. x.blocks) keep.pool ∙ c.new-cells.ensures.blocks in
    let s = c.args.found.now in
    let root : Root = record { id = record { 0 = s.root_block }; height = s.tree_height } in
    let all = c.nodes-nodes.result.all in
    let old = keeping_state (device_state (settled_places (root_name nodes.root) nodes.log.homes nodes.blocks) (d nodes.dev)) all met in
    let fresh = refuses_well (d nodes.dev) nodes.log.homes s root (root_name nodes.root) nodes.blocks met (ap root_name here_root) here_blocks refl keep.empty in
    let well = subst (λ (a : Bool). RefusesWell nodes.log.homes s root (keeping_state (device_state (settled_places (root_name nodes.root) nodes.log.homes nodes.blocks) (d nodes.dev)) a met) (d nodes.dev)) (sym keep.nodes) fresh in
    let after = c.print_path-printed.new in
    let cause = print_cause nodes.log.homes s root old (keeping_state (device_state (settled_places (root_name after.pool.pool.root) after.pool.pool.log.homes after.pool.pool.blocks) (d after.pool.pool.dev)) after.pool.all after.pool.met.entries) (d nodes.dev) (d after.pool.pool.dev) (k c.args.out.now) (k after.out) c.in-Err.stop refl refl well c.in-Err.ensures.printed.cause in
    let of_log = subst (λ (l : Log). IsPrintCause l.homes s (d nodes.dev) (k c.args.out.now) c.in-Err.stop (d after.pool.pool.dev) (k after.out)) here_log cause in
    let of_device = subst (λ x. IsPrintCause c.args.log.homes s (d x) (k c.args.out.now) c.in-Err.stop (d after.pool.pool.dev) (k after.out)) here_device of_log in
    (c.in-Err.stop, subst (λ x. IsPrintCause c.args.log.homes s (d c.args.dev) (k c.args.out.now) c.in-Err.stop (d x) (k after.out)) (sym (c.into_device-dev.ensures ∙ ap (λ x. x.dev) c.into_pool.ensures)) of_device, c.fault_of-fault.ensures)
