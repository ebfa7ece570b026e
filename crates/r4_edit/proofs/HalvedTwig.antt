-- A twig with an extent alone, parted between two of its units.
use Rattle.std.proofs.Common.{◌≡◌, inl, inr, ℕ, ◌+◌, ◌/◌, ◌≤◌, List, [], ◌∷◌, ◌++◌, length, drop, take, slice_index_or}
use Rattle.std.proofs.Common.{refl, sym, ap, subst, ◌∙◌, arith}
use Rattle.std.specs.Prelude.{Contains, None}
use Rattle.std.proofs.lemmas.List.{append-nil, take-append-drop, length-take, length-drop}
use Rattle.r4_base.specs.Key.{rank}
use Rattle.r4_base.specs.Node.{items_of, mkfs_id_of}
use Rattle.r4_base.specs.declared.key.Key.{Key}
use Rattle.r4_path.proofs.r4_branch.ItemPieces.{units_append}
use Rattle.r4_path.specs.r4_branch.Pieces.{AreTwigPieces, Follow as FollowPieces, last_end, names_of, next_of, part_bytes, twig_bytes, units_of}
use Rattle.r4_path.specs.r4_branch.Pieces.{bytes_behind}
use Rattle.r4_path.specs.r4_branch.Twigs.{IsTwig}
use Rattle.r4_path.specs.r4_branch.declared.piece.TwigPart.{TwigPart}
use Rattle.r4_path.specs.r4_branch.declared.piece.TwigPart.TheVariants.{Blocks, Pointer}
use Rattle.r4_path.specs.r4_branch.declared.piece.TwigPiece.{TwigPiece}
use Rattle.r4_path.proofs.r4_branch.Following.{follow_wider}
use Rattle.r4_path.specs.r4_cell.Seen.{CellSeen, node_of}
use Rattle.r4_path.specs.r4_cell.declared.change.Fresh.{Fresh}
use Rattle.r4_path.proofs.r4_graft.Joined.{bytes_any, bytes_join, end_of, follow_parts, names_join}
use Rattle.r4_path.specs.TwigPieces.{ArePiecesOf, twig_pieces}
use Rattle.r4_path.specs.Grafts.{IsTwigRow}
use Rattle.r4_path.specs.Sharing.{IsSound}
use Rattle.r4_edit.specs.Splitting.{IsParted}
use Rattle.r4_path.proofs.CellNodes.{names_are, units_are}
use Rattle.r4_path.proofs.r4_patch.Members.{cases, none}
use Rattle.r4_path.proofs.TwigCells.{has_items, in_naming, naming_in, twig_wide}

-- ---- pieces in two parts, each of which has one

pub record AreHalves (ps left right : List TwigPiece) (key : Key) : Type 0 where
  pub same : ps ≡ left ++ right
  pub some : 1 ≤ length left
  pub more : 1 ≤ length right
  pub next : (hi : ℕ) → next_of hi right ≡ rank key

-- what an index beyond the last piece would give
abbrev pub no_piece : TwigPiece
no_piece = record { key = record { el = [] }; part = Pointer (record { 0 = 0 }) }

first_key : (hi : ℕ) (right : List TwigPiece) (d : TwigPiece) → 1 ≤ length right
    → next_of hi right ≡ rank (slice_index_or right 0 d).key
first_key hi [] d some = absurd (omega (arith, some))
first_key hi (z ∷ zs) d some = refl

pub halves_of : (c : CellSeen) (ps slice left right : List TwigPiece) (count : ℕ) (d : TwigPiece) → ArePiecesOf c ps
    → 2 ≤ length (twig_pieces c) → slice ≡ ps → count ≡ length ps → left ≡ take (count / 2) slice → right ≡ drop (count / 2) slice
    → AreHalves ps left right (slice_index_or right 0 d).key
halves_of c ps slice left right count d of two all many left_is right_is =
    let whole = ap length of.is in
    let l = ap length left_is in
    let r = ap length right_is in
    let h = length-drop (count / 2) slice in
    let t = length-take (count / 2) slice in
    let a = ap length all in
    let more : 1 ≤ length right = omega (arith, whole, two, many, r, h, a) in
    record {
      same = sym ((λ i. left_is i ++ right_is i) ∙ (take-append-drop (count / 2) slice ∙ all));
      some = omega (arith, whole, two, many, l, t, a);
      more = more;
      next = λ hi. first_key hi right d more;
    }

part_least : (k : ℕ) (p : TwigPart) → 46 ≤ part_bytes None k p
part_least k (Pointer to) = omega arith
part_least k (Blocks u) = omega arith

bytes_least : (ps : List TwigPiece) → 1 ≤ length ps → 46 ≤ twig_bytes ps
unfolding bytes_behind
bytes_least [] some = absurd (omega (arith, some))
bytes_least (p ∷ ps) some = let h = part_least (rank p.key) p.part in omega (arith, h)

follow_to_next : (from to : ℕ) (right : List TwigPiece) → 1 ≤ length right → FollowPieces from to right
    → (from ≤ next_of to right) × FollowPieces (next_of to right) to right
follow_to_next from to [] some h = absurd (omega (arith, some))
follow_to_next from to (y ∷ ys) some h = (h.0, (omega arith, h.1, h.2))

first_of_both : (a b : ℕ) (left right : List TwigPiece) → 1 ≤ length left → next_of a (left ++ right) ≡ next_of b left
first_of_both a b [] right some = absurd (omega (arith, some))
first_of_both a b (x ∷ xs) right some = refl

module _ (lo hi : ℕ) (ps left right : List TwigPiece) (key : Key) (are : AreHalves ps left right key)
    (pieces : AreTwigPieces lo hi ps) (fits : twig_bytes ps ≤ 4068) where
  follow : FollowPieces lo hi (left ++ right)
  follow = subst (FollowPieces lo hi) are.same pieces.follow

  parts : FollowPieces lo (end_of lo left) left × FollowPieces (end_of lo left) hi right
  parts = follow_parts lo hi left right follow

  to_next : (end_of lo left ≤ next_of hi right) × FollowPieces (next_of hi right) hi right
  to_next = follow_to_next (end_of lo left) hi right are.more parts.1

  pub left_pieces : AreTwigPieces lo (rank key) left
  left_pieces = record {
    some = are.some;
    first = sym (first_of_both hi (rank key) left right are.some) ∙ (ap (next_of hi) (sym are.same) ∙ pieces.first);
    follow = follow_wider lo (end_of lo left) (rank key) left (subst (λ k. end_of lo left ≤ k) (are.next hi) to_next.0) parts.0;
  }

  pub right_pieces : AreTwigPieces (rank key) hi right
  right_pieces = record {
    some = are.more;
    first = are.next hi;
    follow = subst (λ k. FollowPieces k hi right) (are.next hi) to_next.1;
  }

  bytes : twig_bytes ps ≡ twig_bytes left + bytes_behind (last_end None left) right
  bytes = ap twig_bytes are.same ∙ bytes_join None left right

  pub left_fits : twig_bytes left ≤ 4068
  left_fits = let b = bytes in let f = fits in omega (arith, b, f)

  pub right_fits : twig_bytes right ≤ 4068
  right_fits =
      let b = bytes in
      let f = fits in
      let l = bytes_least left are.some in
      let r = bytes_any None (last_end None left) right in
      omega (arith, b, f, l, r)

  pub names_halves : names_of hi ps ≡ names_of (rank key) left ++ names_of hi right
  names_halves = ap (names_of hi) are.same
      ∙ (names_join hi left right ∙ ap (λ k. names_of k left ++ names_of hi right) (are.next hi))

  pub units_halves : units_of ps ≡ units_of left ++ units_of right
  units_halves = ap units_of are.same ∙ units_append left right

-- ---- the two cells

module _ (c : CellSeen) (level : c.level ≡ 2) (ps left right : List TwigPiece) (key : Key) (are : AreHalves ps left right key)
    (of : ArePiecesOf c ps) (x y : List ℕ)
    (low : IsTwig (rank c.lo) (rank key) left (record { lo = c.lo; block = x }))
    (high : IsTwig (rank key) (rank c.hi) right (record { lo = key; block = y }))
    (x_id : mkfs_id_of x ≡ mkfs_id_of c.block) (y_id : mkfs_id_of y ≡ mkfs_id_of c.block) (f g : Fresh)
    (took : g ≡ record f { next = f.next + 1 }) where
  abbrev pub a : CellSeen
  a = record { id = c.id; level = 2; lo = c.lo; hi = key; block = x }

  abbrev pub b : CellSeen
  b = record { id = f.next; level = 2; lo = key; hi = c.hi; block = y }

  abbrev cells : List CellSeen
  cells = a ∷ (b ∷ [])

  a_sound : IsSound a
  a_sound = record { whole = low.stands.0; accepted = low.stands.1 }

  b_sound : IsSound b
  b_sound = record { whole = high.stands.0; accepted = high.stands.1 }

  all_names : (node_of a).names ++ ((node_of b).names ++ []) ≡ names_of (rank c.hi) ps
  all_names = ap (λ ns. (node_of a).names ++ ns) (append-nil (node_of b).names)
      ∙ ((λ i. (names_are a 1 refl ∙ low.names) i ++ (names_are b 1 refl ∙ high.names) i)
      ∙ sym (names_halves (rank c.lo) (rank c.hi) ps left right key are of.pieces of.fits))

  all_units : (node_of a).units ++ ((node_of b).units ++ []) ≡ units_of ps
  all_units = ap (λ us. (node_of a).units ++ us) (append-nil (node_of b).units)
      ∙ ((λ i. (units_are a 1 refl ∙ low.units) i ++ (units_are b 1 refl ∙ high.units) i)
      ∙ sym (units_halves (rank c.lo) (rank c.hi) ps left right key are of.pieces of.fits))

  each : (P : CellSeen → Type 0) → P a → P b → (d : CellSeen) → Contains cells d → P d
  each P in_a in_b d at = elim (cases a d (b ∷ []) at) [
    | inl is ↦ subst P (sym is) in_a
    | inr rest ↦ elim (cases b d [] rest) [ inl is ↦ subst P (sym is) in_b | inr more ↦ absurd (none d more) ]
  ]

  parted_cells : (old : CellSeen) → old ≡ c → IsParted c f g (record { old = old; new = cells })
  parted_cells old same = record {
    two = refl;
    some = each (λ d. 1 ≤ length (items_of d.block)) (has_items (rank c.lo) (rank key) x low.stands)
        (has_items (rank key) (rank c.hi) y high.stands);
    units = all_units ∙ of.units;
    parts = inr (record {
      level = level;
      names = ap (names_of (rank c.hi)) (sym of.is) ∙ of.names;
      row = subst (λ qs. IsTwigRow c qs f g (record { old = old; new = cells })) of.is (record {
        old = same;
        first = refl;
        ranges = (
          refl,
          refl,
          twig_wide (rank c.lo) (rank key) x low.stands,
          (refl, refl, twig_wide (rank key) (rank c.hi) y high.stands, refl),
        );
        names = λ n. (
          (λ h. subst (λ ns. Contains ns n) all_names (naming_in cells n h)),
          (λ h. in_naming cells n (subst (λ ns. Contains ns n) (sym all_names) h)),
        );
        units = all_units;
        sound = each IsSound a_sound b_sound;
        counts = (refl, tt);
        number = took;
        mkfs_id = each (λ d. mkfs_id_of d.block ≡ mkfs_id_of c.block) x_id y_id;
      });
    });
  }

  pub twig_parted : (old : CellSeen) (new : List CellSeen) (p q : CellSeen) → old ≡ c → p ≡ a → q ≡ b → new ≡ p ∷ (q ∷ [])
      → IsParted c f g (record { old = old; new = new })
  twig_parted old new p q same p_is q_is are_new =
      subst (λ cs. IsParted c f g (record { old = old; new = cs }))
      (sym (are_new ∙ (λ i. p_is i ∷ (q_is i ∷ [])))) (parted_cells old same)
