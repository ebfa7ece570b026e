-- A new root over the root of a part is a change along a path.
use Rattle.std.proofs.Common.{◌≡◌, inl, inr, ℕ, ◌+◌, ◌<◌, List, [], ◌∷◌, map, refl, sym, ap, subst, ◌∙◌, arith}
use Rattle.std.specs.Prelude.{Contains, Some}
use Rattle.std.proofs.lemmas.Option.{same_Some}
use Rattle.r4_base.specs.Key.{least, rank, top}
use Rattle.r4_base.specs.Tree.{IsNode, Name, Node, Root, Store}
use Rattle.r4_base.specs.Value.{Value}
use Rattle.r4_patch.specs.r4_cell.Seen.{CellSeen, node_of}
use Rattle.r4_patch.specs.r4_cell.declared.change.Fresh.{Fresh}
use Rattle.r4_patch.specs.r4_cell.Patch.{IsChange, patch_of}
use Rattle.r4_patch.specs.r4_cell.declared.change.Change.{Change}
use Rattle.r4_patch.specs.Joining.{patch_of_change}
use Rattle.r4_patch.specs.Part.{MeetsPart}
use Rattle.r4_path.specs.Growing.{Grows, HasNewRoot, IsRootIn}
use Rattle.r4_path.specs.Nodes.{IsPointingTo}
use Rattle.r4_path.specs.Steps.{IsNameOf, IsPathChange, Step, name_of, root_pair}
use Rattle.r4_patch.proofs.Members.{cases, here, later, none}
use Rattle.r4_path.proofs.PathPatch.{change_is, part_meets}
use Rattle.r4_path.proofs.Rising.{hi_is, lo_is}

pub names_map : (cells : List CellSeen) (n : Name) → Contains (map name_of cells) n → IsNameOf cells n
names_map [] n h = absurd (none n h)
names_map (c ∷ cells) n h = elim (cases (name_of c) n (map name_of cells) h) [
  | inl is ↦ (c, here c cells, is)
  | inr more ↦ let (d, member, is) = names_map cells n more in (d, later c d cells member, is)
]

pub map_names : (cells : List CellSeen) (n : Name) → IsNameOf cells n → Contains (map name_of cells) n
map_names [] n (d, member, is) = absurd (none d member)
map_names (c ∷ cells) n (d, member, is) = elim (cases c d cells member) [
  | inl e ↦ subst (Contains (map name_of (c ∷ cells))) (sym (is ∙ ap name_of e)) (here (name_of c) (map name_of cells))
  | inr more ↦ later (name_of c) n (map name_of cells) (map_names cells n (d, more, is))
]

only : (c x : CellSeen) → Contains (c ∷ []) x → x ≡ c
only c x h = elim (cases c x [] h) [ inl e ↦ e | inr more ↦ absurd (none x more) ]

-- the root of a part has all keys
pub record HasAllKeys (c : CellSeen) : Type 0 where
  pub lo : rank c.lo ≡ least
  pub hi : rank c.hi ≡ top

pub root_keys : (t : Store Value) (r : Root) (c : CellSeen) (fresh : Fresh) → IsRootIn t r c fresh → HasAllKeys c
root_keys t r c fresh h =
    let part = h.path.part in
    let at = h.path.ascends.0 in
    let same : node_of c ≡ part.root_node = same_Some (node_of c) part.root_node
    (sym (subst (λ i. t i ≡ Some (node_of c)) h.root at) ∙ part.root_is) in
    record {
      lo = sym (lo_is c) ∙ (ap (λ (d : Node Value). d.lo) same ∙ part.root_lo);
      hi = sym (hi_is c)
          ∙ (ap (λ (d : Node Value). d.hi) same ∙ part.root_hi);
    }

-- the old root in its own place
abbrev pub grown : CellSeen → Step
grown c = record { old = c; new = c ∷ [] }

module _ (t : Store Value) (r : Root) (c over : CellSeen) (fresh : Fresh) (is : IsRootIn t r c fresh)
    (more : fresh.next < fresh.end) (points : IsPointingTo (c ∷ []) (c.level + 1) fresh.next over) where
  node : IsNode (node_of c)
  node = is.path.part.nodes c.id (node_of c) is.path.ascends.0

  nonempty : rank c.lo < rank c.hi
  nonempty = let lt = node.nonempty in let lo = lo_is c in let hi = hi_is c in omega (arith, lt, lo, hi)

  pub growth : IsPathChange t r fresh.next (grown c ∷ []) (Some over)
  growth = record {
    part = is.path.part;
    path = is.path.ascends;
    climbs = (
      record {
        first = refl;
        ranges = (refl, refl, nonempty, refl);
        names = λ n. (
          (λ h. let (x, member, named) = h in subst (λ y. Contains (node_of y).names n) (only c x member) named),
          (λ h. (c, here c [], h)),
        );
        spans = λ v. (
          (λ h. let (x, member, spanned) = h in
              subst (λ y. Contains (node_of y).spans v) (only c x member) spanned),
          (λ h. (c, here c [], h)),
        );
      },
      tt,
    );
    ends = record {
      was = is.root;
      level = let l = points.level_is in omega (arith, l);
      lo = points.lo;
      hi = points.hi;
      names = λ n. (
        (λ h. names_map (c ∷ []) n (subst (λ ns. Contains ns n) points.names h)),
        (λ h. subst (λ ns. Contains ns n) (sym points.names) (map_names (c ∷ []) n h)),
      );
      spans = λ v h. none v (subst (λ vs. Contains vs v) points.spans h);
    };
    nodes = λ x member. elim (cases c x (over ∷ []) member) [
      | inl e ↦ subst (λ y. IsNode (node_of y)) (sym e) node
      | inr last ↦ subst (λ y. IsNode (node_of y)) (sym (only over x last)) points.node
    ];
    counts = (points.number, tt);
    free = record {
      cells = λ i low high. is.path.free.cells i low
          (omega (arith, high, more));
      names = λ i low high. is.path.free.names i low (omega (arith, high, more));
    };
  }

  pub grown_change : (d : Change) → HasNewRoot c over d → IsChange d.old d.new d.root
  grown_change d h = subst (λ x. IsChange x d.new d.root) (sym h.old)
      (subst (λ x. IsChange (c ∷ []) x d.root) (sym h.new)
      (subst (λ x. IsChange (c ∷ []) (c ∷ (over ∷ [])) x) (sym h.pair)
      (change_is t r fresh.next (grown c ∷ []) (Some over) growth)))

  as_patch : (d : Change) → HasNewRoot c over d → patch_of (c ∷ []) (c ∷ (over ∷ [])) (root_pair (Some over))
      ≡ patch_of_change d
  as_patch d h = λ i. patch_of (sym h.old i) (sym h.new i) (sym h.pair i)

  pub grown_meets : (d : Change) → HasNewRoot c over d → MeetsPart (patch_of_change d) t r
  grown_meets d h = subst (λ p. MeetsPart p t r) (as_patch d h) (part_meets t r fresh.next (grown c ∷ []) (Some over) growth)

pub grows_of : (c over : CellSeen) (next : ℕ) (d : Change) → IsPointingTo (c ∷ []) (c.level + 1) next over
    → HasNewRoot c over d → Grows c next d
grows_of c over next d points h = record {
  over = over;
  cells = h;
  number = points.number;
  level = points.level_is;
  names = points.names;
  units = points.units;
  mkfs_id = points.mkfs_id c refl;
}

pub points_at : (c d over : CellSeen) (l next : ℕ) → d ≡ c → l ≡ c.level → IsPointingTo (d ∷ []) (l + 1) next over
    → IsPointingTo (c ∷ []) (c.level + 1) next over
points_at c d over l next same level points = subst (λ x. IsPointingTo (x ∷ []) (c.level + 1) next over) same
    (subst (λ k. IsPointingTo (d ∷ []) (k + 1) next over) level points)
