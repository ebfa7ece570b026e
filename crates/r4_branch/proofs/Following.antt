-- Pieces that follow one another, and one more behind them.
use Rattle.std.proofs.Common.{◌≡◌, ℕ, ◌+◌, ◌≤◌, List, [], ◌∷◌, ◌++◌, refl, sym, ap, ◌∙◌, arith}
use Rattle.std.specs.Prelude.{Option, None}
use Rattle.std.proofs.lemmas.List.{append_assoc, append-nil}
use Rattle.r4_base.specs.Key.{rank}
use Rattle.r4_branch.specs.Pieces.{AreTwigPieces, Follow, IsSound, bytes_behind, last_end, names_of, next_of, open_end, part_bytes, part_names, part_units, piece_end, twig_bytes, units_of}
use Rattle.r4_branch.specs.declared.piece.TwigPiece.{TwigPiece}

pub units_more : (ps : List TwigPiece) (p : TwigPiece) → units_of (ps ++ p ∷ []) ≡ units_of ps ++ part_units (rank p.key) p.part
unfolding units_of
units_more [] p = append-nil (part_units (rank p.key) p.part)
units_more (q ∷ ps) p = ap (λ us. part_units (rank q.key) q.part ++ us) (units_more ps p) ∙ sym (append_assoc (part_units (rank q.key) q.part) (units_of ps) (part_units (rank p.key) p.part))

-- the range of the last piece but one ends at the last one's key
next_more : (hi : ℕ) (ps : List TwigPiece) (p : TwigPiece) → next_of hi (ps ++ p ∷ []) ≡ next_of (rank p.key) ps
next_more hi [] p = refl
next_more hi (q ∷ ps) p = refl

pub first_more : (hi : ℕ) (ps : List TwigPiece) (p : TwigPiece) → next_of hi (ps ++ p ∷ []) ≡ next_of (rank p.key) ps
first_more hi ps p = next_more hi ps p

pub names_more : (hi : ℕ) (ps : List TwigPiece) (p : TwigPiece) → names_of hi (ps ++ p ∷ []) ≡ names_of (rank p.key) ps ++ part_names (rank p.key) hi p.part
unfolding names_of
names_more hi [] p = append-nil (part_names (rank p.key) hi p.part)
names_more hi (q ∷ ps) p =
    ap (λ (n : ℕ). part_names (rank q.key) n q.part ++ names_of hi (ps ++ p ∷ [])) (next_more hi ps p)
    ∙ (ap (λ us. part_names (rank q.key) (next_of (rank p.key) ps) q.part ++ us) (names_more hi ps p)
    ∙ sym (append_assoc (part_names (rank q.key) (next_of (rank p.key) ps) q.part) (names_of (rank p.key) ps) (part_names (rank p.key) hi p.part)))

pub follow_wider : (from mid to : ℕ) (ps : List TwigPiece) → mid ≤ to → Follow from mid ps → Follow from to ps
follow_wider from mid to [] le h = omega (arith, le, h)
follow_wider from mid to (p ∷ ps) le h = (h.0, h.1, follow_wider (piece_end p) mid to ps le h.2)

pub follow_more : (from mid to : ℕ) (ps : List TwigPiece) (p : TwigPiece) → Follow from mid ps → mid ≤ rank p.key → IsSound p → piece_end p ≤ to → Follow from to (ps ++ p ∷ [])
follow_more from mid to [] p h le sound end = (omega (arith, h, le), sound, end)
follow_more from mid to (q ∷ ps) p h le sound end = (h.0, h.1, follow_more (piece_end q) mid to ps p h.2 le sound end)

pub last_more : (before : Option ℕ) (ps : List TwigPiece) (p : TwigPiece) → last_end before (ps ++ p ∷ []) ≡ open_end p
last_more before [] p = refl
last_more before (q ∷ ps) p = last_more (open_end q) ps p

behind_more : (before : Option ℕ) (ps : List TwigPiece) (p : TwigPiece) → bytes_behind before (ps ++ p ∷ []) ≡ bytes_behind before ps + part_bytes (last_end before ps) (rank p.key) p.part
unfolding bytes_behind
behind_more before [] p = omega arith
behind_more before (q ∷ ps) p = let h = behind_more (open_end q) ps p in omega (arith, h)

pub bytes_more : (ps : List TwigPiece) (p : TwigPiece) → twig_bytes (ps ++ p ∷ []) ≡ twig_bytes ps + part_bytes (last_end None ps) (rank p.key) p.part
bytes_more ps p = behind_more None ps p

-- ---- pieces that may make a twig

pub are_one : (lo hi : ℕ) (p : TwigPiece) → rank p.key ≡ lo → IsSound p → piece_end p ≤ hi → AreTwigPieces lo hi (p ∷ [])
are_one lo hi p from sound end = record { some = omega arith; first = from; follow = (omega (arith, from), sound, end) }

pub are_more : (lo mid hi : ℕ) (ps : List TwigPiece) (p : TwigPiece) → AreTwigPieces lo mid ps → mid ≤ rank p.key → IsSound p → piece_end p ≤ hi → AreTwigPieces lo hi (ps ++ p ∷ [])
are_more lo mid hi [] p a le sound end = let some = a.some in absurd (omega (arith, some))
are_more lo mid hi (q ∷ ps) p a le sound end = record { some = omega arith; first = a.first; follow = follow_more lo mid hi (q ∷ ps) p a.follow le sound end }

pub are_wider : (lo mid hi : ℕ) (ps : List TwigPiece) → AreTwigPieces lo mid ps → mid ≤ hi → AreTwigPieces lo hi ps
are_wider lo mid hi [] a le = let some = a.some in absurd (omega (arith, some))
are_wider lo mid hi (q ∷ ps) a le = record { some = omega arith; first = a.first; follow = follow_wider lo mid hi (q ∷ ps) le a.follow }
