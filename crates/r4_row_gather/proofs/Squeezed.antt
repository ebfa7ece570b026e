-- Leaves below a twig that are packed are a change without effect.
use Rattle.std.proofs.Common.{◌≡◌, inl, inr, ℕ, false, List, [], ◌∷◌, ◌++◌, None, sym, ap, subst, ◌∙◌, refl}
use Rattle.std.specs.Prelude.{Contains}
use Rattle.std.proofs.lemmas.List.Elements.{Contains-append_cases, Contains-append_left, Contains-append_right}
use Rattle.r4_base.specs.Tree.{Root, Store}
use Rattle.r4_base.specs.Value.{Value}
use Rattle.r4_base.specs.declared.key.Key.{Key}
use Rattle.r4_work.specs.r4_cell.Patch.{HaveNames, IsChange}
use Rattle.r4_work.specs.r4_cell.Seen.{CellSeen}
use Rattle.r4_work.specs.r4_cell.declared.change.Change.{Change}
use Rattle.r4_work.specs.r4_patch.Effect.{HasEffect}
use Rattle.r4_work.specs.r4_patch.Following.{without}
use Rattle.r4_work.specs.r4_patch.Joining.{ids_of, patch_of_change}
use Rattle.r4_work.specs.r4_patch.Part.{MeetsPart}
use Rattle.r4_work.proofs.r4_patch.Followed.{cell_among}
use Rattle.r4_work.proofs.r4_patch.LeftOut.{among_contained}
use Rattle.r4_work.proofs.r4_patch.Members.{cases, here, later, none}
use Rattle.r4_work.proofs.r4_path.Rising.{id_member}
use Rattle.r4_rows.specs.Slum.{IsSlum}
use Rattle.r4_squeeze.specs.Over.{IsSlumOf}
use Rattle.r4_squeeze.specs.Packing.{cells_filled}
use Rattle.r4_squeeze.specs.Squeezing.{Squeezes}
use Rattle.r4_squeeze.specs.declared.filled.Filled.{Filled}
use Rattle.r4_row_gather.specs.Gathering.{IsStill, StandIn, StaysStill}
use Rattle.r4_row_gather.proofs.Gathers.{standing_names}

-- cells of nodes have the numbers that these are given
filled_number : (level : ℕ) (ids : List ℕ) (hi : Key) (xs : List Filled) (c : CellSeen) → Contains (cells_filled level ids hi xs) c
    → Contains ids c.id
filled_number level [] hi xs c at = absurd (none c at)
filled_number level (i ∷ ids) hi [] c at = absurd (none c at)
filled_number level (i ∷ ids) hi (x ∷ []) c at =
    elim (cases (record { id = i; level = level; lo = x.lo; hi = hi; block = x.block }) c [] at) [
      | inl is ↦ subst (Contains (i ∷ ids)) (ap (λ (y : CellSeen). y.id) (sym is)) (here i ids)
      | inr more ↦ absurd (none c more)
    ]
filled_number level (i ∷ ids) hi (x ∷ (y ∷ more)) c at =
    elim (cases (record { id = i; level = level; lo = x.lo; hi = y.lo; block = x.block }) c
    (cells_filled level ids hi (y ∷ more)) at) [
      | inl is ↦ subst (Contains (i ∷ ids)) (ap (λ (z : CellSeen). z.id) (sym is)) (here i ids)
      | inr rest ↦ later i c.id ids (filled_number level ids hi (y ∷ more) c rest)
    ]

-- What `squeeze` says of a change.
pub record IsSqueezeOf (leaves : List CellSeen) (twig : CellSeen) (c : Change) : Type 0 where
  pub change : (t : Store Value) (r : Root) → IsSlum t r leaves twig → IsChange c.old c.new c.root
  pub meets : (t : Store Value) (r : Root) → IsSlum t r leaves twig → MeetsPart (patch_of_change c) t r
  pub effect : (t : Store Value) (r : Root) → IsSlum t r leaves twig
      → HasEffect (patch_of_change c) (λ k. false) (λ k. None)
  pub squeezes : Squeezes leaves twig c

module _ (cells leaves : List CellSeen) (twig : CellSeen) (leaf_in : (x : CellSeen) → Contains leaves x → Contains cells x)
    (twig_in : Contains cells twig) (slum : IsSlumOf leaves twig) (c : Change) (s : IsSqueezeOf leaves twig c)
    (stood : List CellSeen) (stand : stood ≡ c.new ++ without (ids_of c.old) cells) where
  is_slum : (t : Store Value) (r : Root) → StandIn t r cells → IsSlum t r leaves twig
  is_slum t r within = record {
    part = within.part;
    level = slum.level;
    from = slum.from;
    to = slum.to;
    branch = slum.beside.branch;
    follow = slum.beside.follow;
    some = slum.beside.some;
    there = λ x at. within.stand x (leaf_in x at);
    above = within.stand twig twig_in;
    named = slum.named;
  }

  stays : (t : Store Value) (r : Root) → StandIn t r cells → IsStill t r c
  stays t r within = record {
    change = s.change t r (is_slum t r within);
    meets = s.meets t r (is_slum t r within);
    effect = s.effect t r (is_slum t r within);
  }

  was_old : (x : CellSeen) → Contains (leaves ++ twig ∷ []) x → Contains c.old x
  was_old x at = subst (λ xs. Contains xs x) (sym s.squeezes.old) at

  old_in : (x : CellSeen) → Contains c.old x → Contains cells x
  old_in x at = elim (Contains-append_cases leaves (twig ∷ []) x (subst (λ xs. Contains xs x) s.squeezes.old at)) [
    | inl leaf ↦ leaf_in x leaf
    | inr over ↦ elim (cases twig x [] over) [
      | inl is ↦ subst (Contains cells) (sym is) twig_in
      | inr nothing ↦ absurd (none x nothing)
    ]
  ]

  leaf_number : (i : ℕ) → Contains (ids_of leaves) i → Contains (ids_of c.old) i
  leaf_number i at =
      let (x, has, is) = cell_among leaves i (among_contained (ids_of leaves) i at) in
      subst (Contains (ids_of c.old)) is (id_member c.old x (was_old x (Contains-append_left leaves (twig ∷ []) x has)))

  numbered : (x : CellSeen) → Contains c.new x → Contains (ids_of c.old) x.id
  numbered x at = elim (Contains-append_cases s.squeezes.cells (s.squeezes.over ∷ []) x
      (subst (λ xs. Contains xs x) s.squeezes.new at)) [
        | inl mine ↦
            let packed = s.squeezes.packed in
            leaf_number x.id (filled_number packed.level (ids_of leaves) packed.hi packed.filled x
            (subst (λ xs. Contains xs x) packed.are mine))
        | inr last ↦ elim (cases s.squeezes.over x [] last) [
          | inl is ↦ subst (Contains (ids_of c.old)) (sym (ap (λ (y : CellSeen). y.id) is ∙ s.squeezes.above.id))
              (id_member c.old twig (was_old twig (Contains-append_right leaves (twig ∷ []) twig (here twig []))))
          | inr nothing ↦ absurd (none x nothing)
        ]
      ]

  pub squeezed_stay : StaysStill cells (record { change = c; cells = stood })
  squeezed_stay = record {
    still = stays;
    root = s.squeezes.root;
    old = old_in;
    new = numbered;
    stand = stand;
    names = λ t r within names. subst HaveNames (sym stand)
        (standing_names cells c.old c.new names (stays t r within).change.new_names numbered);
  }
