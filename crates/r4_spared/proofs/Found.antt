-- The objects that a command finds in what was seen of a volume have ids from 42 on.
use Rattle.std.specs.Prelude.{◌≡◌, ◌^◌, ◌<◌, Bool, true, false, Some}
use Rattle.std.proofs.Common.{arith, refl, sym, ◌∙◌}
use Rattle.r4_base.specs.Tree.{Root, Store}
use Rattle.r4_base.specs.Value.{Content, Stat, Value, at_key}
use Rattle.r4_base.specs.Volume.{HasIds, HasUnits, is_directory, stat_rank}
use Rattle.r4_base.specs.declared.superblock.Super40.{Super40}
use Rattle.r4_content.specs.Edited.{Pairs}
use Rattle.r4_content.specs.Lawful.{IsLawful}
use Rattle.r4_content.specs.Meaning.{greatest_size}
use Rattle.r4_content.specs.Seen.{IsSeen}
use Rattle.r4_content.specs.declared.command.Command.{Command}
use Rattle.r4_build.specs.r4_patch.Part.{IsPart}
use Rattle.r4_spared.specs.Spared.{AreObjectsSeen, HasGoodObjects}

pub found_good : (c : Command) (s : Pairs) (m : Content) (t : Store Value) (root : Root) → IsSeen greatest_size c s m
    → IsPart t root → HasUnits t m → HasGoodObjects m → AreObjectsSeen c s
found_good c s m t root seen it units objects o a is on found =
    let at : at_key m (stat_rank o) ≡ Some (Stat a) = sym (seen.agrees (stat_rank o) on) ∙ found in
    let (i, n, there, has) = (units (stat_rank o) (Stat a)).0 at in
    let node = it.nodes i n there in
    let low = node.from_least in
    let within = node.unit_in (stat_rank o) (Stat a) has in
    let (id, size) = objects o a (is, at) in
    (omega (arith, low, within), id, size)

pub volume_good : (super : Super40) (m : Content) → IsLawful greatest_size m → HasIds super m → HasGoodObjects m
volume_good super m lawful ids o a has = ((ids.ids o a has).0, by_kind (is_directory a) refl)
  where
    by_kind : (v : Bool) → is_directory a ≡ v → a.size < 2 ^ 64
    by_kind true e = let room = lawful.room o a has e in omega (arith, room)
    by_kind false e = let small = lawful.bodies.small o a has e in omega (arith, small)
