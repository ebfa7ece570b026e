-- The pointers to leaves that stand one beside the other, among a twig's pieces.
use Rattle.std.proofs.Common.{◌≡◌, inl, inr, ℕ, ◌+◌, ◌≤◌, List, [], ◌∷◌, ◌++◌, map, refl, sym, ap, subst, ◌∙◌, arith}
use Rattle.std.specs.Prelude.{Contains}
use Rattle.std.proofs.lemmas.List.Elements.{Contains-append_cases, Contains-append_left}
use Rattle.r4_base.specs.Key.{rank}
use Rattle.r4_base.specs.Tree.{Name}
use Rattle.r4_work.specs.r4_branch.Pieces.{Follow, names_of, next_of, part_end, part_names, part_units, piece_end, units_of}
use Rattle.r4_work.specs.r4_branch.declared.piece.TwigPart.TheVariants.{Pointer}
use Rattle.r4_work.specs.r4_branch.declared.piece.TwigPiece.{TwigPiece}
use Rattle.r4_work.specs.r4_cell.Seen.{CellSeen}
use Rattle.r4_work.proofs.r4_graft.FoundPlaces.{find_pointer}
use Rattle.r4_work.proofs.r4_graft.Joined.{end_of, follow_parts, names_join}
use Rattle.r4_work.proofs.r4_graft.Placed.{follow_end, has_end}
use Rattle.r4_work.proofs.r4_graft.SplicedNames.{names_begin}
use Rattle.r4_work.proofs.r4_patch.Members.{cases, here, later, none}
use Rattle.r4_work.specs.r4_path.Steps.{Follow as FollowCells, name_of}
use Rattle.r4_work.proofs.r4_path.Rising.{follow_within}

-- The pieces point to these leaves, one after the other, and the next one begins at a key.
pub record HasPointers (hi : ℕ) (ps : List TwigPiece) (leaf : CellSeen) (more : List CellSeen) (end : ℕ) : Type 0 where
  pub before : List TwigPiece
  pub piece : TwigPiece
  pub others : List TwigPiece
  pub behind : List TwigPiece
  pub is : ps ≡ before ++ (piece ∷ (others ++ behind))
  pub key : rank piece.key ≡ rank leaf.lo
  pub part : piece.part ≡ Pointer (record { 0 = leaf.id })
  pub next : next_of hi behind ≡ end
  pub begins : next_of end others ≡ rank leaf.hi
  pub names : names_of end others ≡ map name_of more
  pub units : units_of others ≡ []
  pub each : (p : TwigPiece) → Contains others p → (c : CellSeen) × (Contains more c × ((rank p.key ≡ rank c.lo)
      × (piece_end p ≡ rank p.key + 1)))

-- a piece that begins where the first of others does is the first of all
none_before : (from hi k : ℕ) (xs : List TwigPiece) (p : TwigPiece) (ys : List TwigPiece)
    → Follow from hi (xs ++ (p ∷ ys))
    → next_of hi (xs ++ (p ∷ ys)) ≡ k → rank p.key ≡ k → xs ≡ []
none_before from hi k [] p ys f first key = refl
none_before from hi k (x ∷ xs) p ys f first key =
    let parts = follow_parts (piece_end x) hi xs (p ∷ ys) f.2 in
    let low = parts.1.0 in
    let up = (follow_end (piece_end x) (end_of (piece_end x) xs) xs parts.0).0 in
    let e = has_end x f.1 in
    absurd (omega (arith, low, up, e, first, key))

-- a name that begins behind a pointer is named behind it
named_behind : (from hi : ℕ) (xs : List TwigPiece) (p : TwigPiece) (ys : List TwigPiece) (n : Name)
    → Follow from hi (xs ++ (p ∷ ys))
    → piece_end p ≤ n.lo → Contains (names_of hi (xs ++ (p ∷ ys))) n → Contains (names_of hi ys) n
unfolding names_of
named_behind from hi xs p ys n f low at =
    let all : names_of hi (xs ++ (p ∷ ys)) ≡ names_of (rank p.key) xs ++ (part_names (rank p.key)
    (next_of hi ys) p.part ++ names_of hi ys) = names_join hi xs (p ∷ ys) in
    let parts = follow_parts from hi xs (p ∷ ys) f in
    elim (Contains-append_cases (names_of (rank p.key) xs) (part_names (rank p.key) (next_of hi ys) p.part
    ++ names_of hi ys) n (subst (λ ns. Contains ns n) all at)) [
      | inl left ↦
          let r = names_begin from (end_of from xs) (rank p.key) xs n parts.0 left in
          let e = (follow_end from (end_of from xs) xs parts.0).1 in
          let key = parts.1.0 in
          let end = has_end p parts.1.1 in
          absurd (omega (arith, r, key, end, low, e))
      | inr more ↦ elim (Contains-append_cases (part_names (rank p.key) (next_of hi ys) p.part)
          (names_of hi ys) n more) [
            | inr behind ↦ behind
            | inl mine ↦
                let r = names_begin (rank p.key) (piece_end p) (next_of hi ys) (p ∷ []) n
                (omega arith, parts.1.1, omega arith)
                (Contains-append_left (part_names (rank p.key) (next_of hi ys) p.part) [] n mine) in
                absurd (omega (arith, r, low))
          ]
    ]

pub find_pointers : (from hi end : ℕ) (ps : List TwigPiece) (leaf : CellSeen) (more : List CellSeen) → Follow from hi ps
    → FollowCells 1 (rank leaf.lo) end (leaf ∷ more) → ((c : CellSeen) → Contains (leaf ∷ more) c
    → Contains (names_of hi ps) (name_of c))
    → HasPointers hi ps leaf more end
unfolding names_of units_of
find_pointers from hi end ps leaf [] f beside named =
    let r = find_pointer from hi hi ps (name_of leaf) f (named leaf (here leaf [])) beside.0 in
    record {
      before = r.before;
      piece = r.piece;
      others = [];
      behind = r.behind;
      is = r.is;
      key = r.key;
      part = r.part;
      next = r.next ∙ beside.3;
      begins = sym beside.3;
      names = refl;
      units = refl;
      each = λ p at. absurd (none p at);
    }
find_pointers from hi end ps leaf (d ∷ ds) f beside named =
    let r = find_pointer from hi hi ps (name_of leaf) f (named leaf (here leaf (d ∷ ds))) beside.0 in
    let all : Follow from hi (r.before ++ (r.piece ∷ r.behind)) = subst (Follow from hi) r.is f in
    let rest = (follow_parts from hi r.before (r.piece ∷ r.behind) all).1.2 in
    let lo : rank d.lo ≡ rank leaf.hi = beside.3.1 in
    let key = r.key in
    let up = beside.2 in
    let ends : piece_end r.piece ≡ rank r.piece.key + 1 = ap (part_end (rank r.piece.key)) r.part in
    let low : (c : CellSeen) → Contains (d ∷ ds) c → piece_end r.piece ≤ rank c.lo = λ c at. let w = follow_within 1
    (rank leaf.hi) end (d ∷ ds) c beside.3 at in let from = w.from in omega (arith, from, key, up, ends) in
    let q = find_pointers (piece_end r.piece) hi end r.behind d ds rest (subst (λ (k : ℕ). FollowCells 1 k end (d
    ∷ ds)) (sym lo) beside.3)
    (λ c at. named_behind from hi r.before r.piece r.behind (name_of c) all (low c at) (subst (λ xs. Contains
    (names_of hi xs) (name_of c)) r.is (named c (later leaf c (d ∷ ds) at)))) in
    let none : q.before ≡ [] = none_before (piece_end r.piece) hi (rank d.lo) q.before q.piece (q.others ++ q.behind)
    (subst (Follow (piece_end r.piece) hi) q.is rest) (ap (next_of hi) (sym q.is) ∙ (r.next ∙ sym lo)) q.key in
    let behind_is : r.behind ≡ q.piece ∷ (q.others ++ q.behind) = q.is
    ∙ ap (λ xs. xs ++ (q.piece ∷ (q.others ++ q.behind))) none in
    record {
      before = r.before;
      piece = r.piece;
      others = q.piece ∷ q.others;
      behind = q.behind;
      is = r.is ∙ ap (λ xs. r.before ++ (r.piece ∷ xs)) behind_is;
      key = r.key;
      part = r.part;
      next = q.next;
      begins = q.key ∙ lo;
      names =
          (λ i. part_names (q.key i) (q.begins i) (q.part i) ++ q.names i)
          ∙ (λ i. record { id = d.id; level = sym beside.3.0 i; lo = rank d.lo; hi = rank d.hi } ∷ map name_of ds);
      units = (λ i. part_units (rank q.piece.key) (q.part i) ++ q.units i);
      each = λ p at. elim (cases q.piece p q.others at) [
        | inl is ↦ (
          d,
          (
            here d ds,
            (
              ap (λ (x : TwigPiece). rank x.key) is
                  ∙ q.key,
              ap (λ (x : TwigPiece). piece_end x) is ∙ (ap (part_end (rank q.piece.key)) q.part
                  ∙ ap (λ (x : TwigPiece). rank x.key + 1) (sym is)),
            ),
          ),
        )
        | inr rest_at ↦ let e = q.each p rest_at in (e.0, (later d e.0 ds e.1.0, e.1.1))
      ];
    }
