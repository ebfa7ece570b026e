use Rattle.r4_path.specs.r4_cell.Patch.{place, root_after}
use Rattle.r4_path.proofs.r4_patch.PartCells.{tree_is_part}
use Rattle.r4_reach.proofs.Same.{reached_from, reached_to, root_from, root_to, written_from, written_to}
use Rattle.r4_reach.proofs.Trees.{it, kept, same_root, tree_has}
use Rattle.r4_reach.proofs.laws.reach_is_the_same_without_others.Goals as goal

pub returns-clause-cells : goal.returns-clause-cells
returns-clause-cells g c d q u root h = kept d h.plain q u root h.tree h.patch h.meets h.apart

pub returns-clause-written : goal.returns-clause-written
returns-clause-written g c d q u root i h =
    let t = place q u in
    let high = root_after q root in
    let tree = it d h.plain q u root h.tree h.patch h.meets h.apart in
    let one = tree_is_part t high tree in
    let two = tree_is_part u root h.tree in
    let has = tree_has d t high h.plain tree in
    let same = kept d h.plain q u root h.tree h.patch h.meets h.apart in
    let roots = same_root d h.plain q u root h.tree h.patch h.meets h.apart in (
      written_to d h.plain t u high root one two has same roots i,
      written_from d h.plain t u high root one two has same
          roots i,
    )

pub returns-clause-read : goal.returns-clause-read
returns-clause-read g c d q u root i h =
    let t = place q u in
    let high = root_after q root in
    let tree = it d h.plain q u root h.tree h.patch h.meets h.apart in
    let one = tree_is_part t high tree in
    let two = tree_is_part u root h.tree in
    let has = tree_has d t high h.plain tree in
    let same = kept d h.plain q u root h.tree h.patch h.meets h.apart in
    let roots = same_root d h.plain q u root h.tree h.patch h.meets h.apart in (
      λ (r, w). (
        reached_to d h.plain t u high root one two has same roots i r,
        λ x. w
            (written_from d h.plain t u high root one two has same roots i x),
      ),
      λ (r, w). (
        reached_from d h.plain t u high root one two has same roots i r,
        λ x. w
            (written_to d h.plain t u high root one two has same roots i x),
      ),
    )

pub returns-clause-root : goal.returns-clause-root
returns-clause-root g c d q u root a h =
    let t = place q u in
    let high = root_after q root in
    let tree = it d h.plain q u root h.tree h.patch h.meets h.apart in
    let one = tree_is_part t high tree in
    let two = tree_is_part u root h.tree in
    let has = tree_has d t high h.plain tree in
    let same = kept d h.plain q u root h.tree h.patch h.meets h.apart in
    let roots = same_root d h.plain q u root h.tree h.patch h.meets h.apart in (
      root_to d h.plain t u high root one two has same roots a,
      root_from d h.plain t u high root one two has same
          roots a,
    )
