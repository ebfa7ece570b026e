-- Pieces that follow one another, and their units.
use Rattle.std.proofs.Common.{◌≡◌, ℕ, zero, suc, ◌+◌, ◌≤◌, List, [], ◌∷◌, ◌++◌, map, take, refl, sym, ap, ◌∙◌, arith}
use Rattle.std.specs.Prelude.{slice_get, Some}
use Rattle.std.proofs.lemmas.List.{append_assoc, append-nil}
use Rattle.std.proofs.lemmas.Option.{same_Some}
use Rattle.r4_base.specs.Key.{rank}
use Rattle.r4_leaf.specs.Pieces.{Adds, Follow, IsSound, piece_end, piece_key, piece_units, units_of}
use Rattle.r4_leaf.specs.declared.piece.Piece.{Piece}

pub units_append : (ps qs : List Piece) → units_of (ps ++ qs) ≡ units_of ps ++ units_of qs
units_append [] qs = refl
units_append (p ∷ ps) qs = ap (λ us. piece_units p ++ us) (units_append ps qs) ∙ sym (append_assoc (piece_units p) (units_of ps) (units_of qs))

pub units_more : (ps : List Piece) (p : Piece) → units_of (ps ++ p ∷ []) ≡ units_of ps ++ piece_units p
units_more ps p = units_append ps (p ∷ []) ∙ ap (λ us. units_of ps ++ us) (append-nil (piece_units p))

pub follow_wider : (from mid to : ℕ) (ps : List Piece) → mid ≤ to → Follow from mid ps → Follow from to ps
follow_wider from mid to [] le h = omega (arith, le, h)
follow_wider from mid to (p ∷ ps) le h = (h.0, h.1, follow_wider (piece_end p) mid to ps le h.2)

pub follow_more : (from mid to : ℕ) (ps : List Piece) (p : Piece) → Follow from mid ps → mid ≤ rank (piece_key p) → IsSound p → piece_end p ≤ to → Follow from to (ps ++ p ∷ [])
follow_more from mid to [] p h le sound end = (omega (arith, h, le), sound, end)
follow_more from mid to (q ∷ ps) p h le sound end = (h.0, h.1, follow_more (piece_end q) mid to ps p h.2 le sound end)

pub adds_one : (ps : List Piece) (p : Piece) → IsSound p → Adds ps (rank (piece_key p)) (piece_end p) (piece_units p) (ps ++ p ∷ [])
adds_one ps p sound = record { units = units_more ps p; follow = λ lo h. follow_more lo (rank (piece_key p)) (piece_end p) ps p h (omega arith) sound (omega arith) }

pub map_more : {A B : Type 0} (f : A → B) (n : ℕ) (xs : List A) (x : A) → slice_get xs n ≡ Some x → map f (take (n + 1) xs) ≡ map f (take n xs) ++ f x ∷ []
map_more f zero [] x e = absurd cc
map_more f (suc n) [] x e = absurd cc
map_more f zero (y ∷ ys) x e = ap (λ z. f z ∷ []) (same_Some y x e)
map_more f (suc n) (y ∷ ys) x e = let step : suc n + 1 ≡ suc (n + 1) = omega arith in ap (λ k. map f (take k (y ∷ ys))) step ∙ ap (λ zs. f y ∷ zs) (map_more f n ys x e)
