-- A standing twig of a part of a tree of which blocks go.
use Rattle.std.proofs.Common.{◌≡◌, ◌≢◌, ◌⊎◌, inl, inr, ℕ, ◌<◌, ◌≤◌, [], ◌∷◌, ◌++◌, refl, sym, ap, subst, ◌∙◌, arith}
use Rattle.std.specs.Prelude.{Contains, Option, None, Some}
use Rattle.std.proofs.lemmas.Bool.{cases_lt}
use Rattle.std.proofs.lemmas.List.{append-nil}
use Rattle.std.proofs.lemmas.List.Elements.{Contains-append_left, Contains-append_right}
use Rattle.std.proofs.lemmas.Option.{same_Some}
use Rattle.r4_base.specs.Tree.{IsNode, Name, Node, Root, Store}
use Rattle.r4_base.specs.Value.{Value}
use Rattle.r4_extent_build.specs.r4_cell.Patch.{HaveNames}
use Rattle.r4_extent_build.specs.r4_cell.Seen.{CellSeen, node_of}
use Rattle.r4_extent_build.specs.r4_cell.declared.change.Fresh.{Fresh}
use Rattle.r4_extent_build.specs.r4_edit.Extents.{given_cells}
use Rattle.r4_extent_build.proofs.r4_twig_work.r4_extent_edit.ExtentEffect.{is_on}
use Rattle.r4_extent_build.specs.r4_patch.Part.{IsPart}
use Rattle.r4_extent_build.proofs.r4_patch.Members.{cases, distinct, distinct_append, have_names, none}
use Rattle.r4_extent_build.specs.r4_path.Steps.{name_of}
use Rattle.r4_extent_build.proofs.r4_path.Rising.{level_is}
use Rattle.r4_extent_build.specs.r4_reach.Touched.{Body}
use Rattle.r4_extent_build.specs.r4_work.Working.{IsWorking, now_of, root_of}
use Rattle.r4_extent_build.specs.r4_work.declared.working.WorkingSet.{WorkingSet}
use Rattle.r4_extent_build.proofs.r4_work.InPlace.{now_part, standing_is}
use Rattle.r4_extent_loss.specs.Losing.{IsLeft, IsLossOf, Loss, gone_from, gone_to}
use Rattle.r4_extent_loss.specs.LosingEach.{IsLossIn}

module _ (t : Store Value) (r : Root) (f : Fresh) (w : WorkingSet) (working : IsWorking t r f w) (b : Body) (x : Loss) (s : IsLossIn b w x) where
  part : IsPart (now_of w t) (root_of w r)
  part = now_part t r f w working

  node : IsNode (node_of x.twig)
  node = part.nodes x.twig.id (node_of x.twig) (standing_is t r f w working x.twig s.stands.twig)

  at_block : (c : CellSeen) → Contains x.blocks c → now_of w t c.id ≡ Some (node_of c)
  at_block c at = standing_is t r f w working c (s.stands.goes c (Contains-append_left x.blocks (given_cells x.leaf) c at))

  -- a leaf and an extent have no key in common
  clear : (n : Name) → Contains (node_of x.twig).names n → n.level ≡ 1 → (n.hi ≤ gone_from b x.twig) ⊎ (gone_to b x.twig ≤ n.lo)
  clear n named one = elim (cases_lt (gone_from b x.twig) n.hi) [
    | inr below ↦ inl below
    | inl past ↦ elim (cases_lt n.lo (gone_to b x.twig)) [
      | inr behind ↦ inr behind
      | inl before ↦ absurd (elim (cases_lt n.lo (gone_from b x.twig)) [
        | inl lower ↦ meets (gone_from b x.twig) (omega (arith, lower)) past (omega arith) s.some
        | inr higher ↦ meets n.lo (omega arith) (node.name_nonempty n named) higher before
      ])
    ]
  ]
    where
      meets : (k : ℕ) → n.lo ≤ k → k < n.hi → gone_from b x.twig ≤ k → k < gone_to b x.twig → ⊥
      meets k low high from to =
          let (span, spans, range) = s.spanned k (is_on (gone_from b x.twig) (gone_to b x.twig) k from to) in
          let zero_is : n.level ≡ 0 = node.spans_apart n span k named spans (low, high) range in
          omega (arith, zero_is, one)

  once : (o : Option CellSeen) → IsLeft b x.twig o → ((c : CellSeen) → Contains (given_cells o) c → now_of w t c.id ≡ Some (node_of c)) → HaveNames (x.blocks ++ given_cells o)
  once None left stands = subst HaveNames (sym (append-nil x.blocks)) s.once
  once (Some l) left stands = have_names (x.blocks ++ (l ∷ [])) (distinct_append x.blocks (l ∷ []) (distinct x.blocks s.once) ((λ y at e. absurd (none y at)), tt) apart)
    where
      apart : (c d : CellSeen) → Contains x.blocks c → Contains (l ∷ []) d → c.id ≢ d.id
      apart c d at_c at_d same =
          let this : d ≡ l = elim (cases l d [] at_d) [ inl is ↦ is | inr nil ↦ absurd (none d nil) ] in
          let nodes : node_of c ≡ node_of d = same_Some (node_of c) (node_of d) (sym (at_block c at_c) ∙ (ap (now_of w t) same ∙ stands d at_d)) in
          let levels = ap (λ (y : Node Value). y.level) nodes in
          let a = level_is c in
          let z = level_is d in
          let zero_is = ((s.goes (name_of c)).0 (c, at_c, refl)).1.0 in
          let one = ap (λ (y : CellSeen). y.level) this ∙ left.level in
          omega (arith, levels, a, z, zero_is, one)

  pub loss_of_part : IsLossOf b x
  loss_of_part = record {
    pieces = s.pieces;
    node = node;
    level = s.level;
    some = s.some;
    first_border = s.first_border;
    last_border = s.last_border;
    begins = s.begins;
    clear = clear;
    goes = s.goes;
    nodes = λ c at. part.nodes c.id (node_of c) (at_block c at);
    once = once x.leaf s.left (λ c at. standing_is t r f w working c (s.stands.goes c (Contains-append_right x.blocks (given_cells x.leaf) c at)));
    left = s.left;
    mkfs_id = s.mkfs_id;
  }
