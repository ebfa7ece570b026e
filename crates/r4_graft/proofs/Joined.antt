-- Pieces behind others: what they name, their units, and the bytes that they take up.
use Rattle.std.proofs.Common.{◌≡◌, ℕ, ◌+◌, ◌≤◌, Bool, true, false, List, [], ◌∷◌, ◌++◌, refl, sym, ap, ◌∙◌, arith}
use Rattle.std.specs.Prelude.{Option, None, if◌then◌else◌}
use Rattle.std.proofs.lemmas.List.{append_assoc}
use Rattle.r4_base.specs.Key.{rank}
use Rattle.r4_branch.specs.Pieces.{Follow, bytes_behind, is_at, last_end, names_of, next_of, open_end, part_bytes, part_names, part_units, piece_end, twig_bytes, units_of}
use Rattle.r4_branch.specs.declared.piece.TwigPart.{TwigPart}
use Rattle.r4_branch.specs.declared.piece.TwigPart.TheVariants.{Pointer, Blocks}
use Rattle.r4_branch.specs.declared.piece.TwigPiece.{TwigPiece}

pub next_join : (hi : ℕ) (xs ys : List TwigPiece) → next_of hi (xs ++ ys) ≡ next_of (next_of hi ys) xs
next_join hi [] ys = refl
next_join hi (x ∷ xs) ys = refl

pub names_join : (hi : ℕ) (xs ys : List TwigPiece) → names_of hi (xs ++ ys) ≡ names_of (next_of hi ys) xs ++ names_of hi ys
unfolding names_of
names_join hi [] ys = refl
names_join hi (x ∷ xs) ys =
    ap (λ (n : ℕ). part_names (rank x.key) n x.part ++ names_of hi (xs ++ ys)) (next_join hi xs ys)
    ∙ (ap (λ ns. part_names (rank x.key) (next_of (next_of hi ys) xs) x.part ++ ns) (names_join hi xs ys)
    ∙ sym (append_assoc (part_names (rank x.key) (next_of (next_of hi ys) xs) x.part) (names_of (next_of hi ys) xs) (names_of hi ys)))

-- ---- order

pub follow_join : (from mid to : ℕ) (xs ys : List TwigPiece) → Follow from mid xs → Follow mid to ys → Follow from to (xs ++ ys)
follow_join from mid to [] [] h g = omega (arith, h, g)
follow_join from mid to [] (y ∷ ys) h g = let low = g.0 in (omega (arith, h, low), g.1, g.2)
follow_join from mid to (x ∷ xs) ys h g = (h.0, h.1, follow_join (piece_end x) mid to xs ys h.2 g)

-- where the pieces end, the first behind a key
abbrev pub end_of : (from : ℕ) → List TwigPiece → ℕ
end_of from [] = from
end_of from (x ∷ xs) = end_of (piece_end x) xs

pub follow_parts : (from to : ℕ) (xs ys : List TwigPiece) → Follow from to (xs ++ ys) → Follow from (end_of from xs) xs × Follow (end_of from xs) to ys
follow_parts from to [] ys h = (omega arith, h)
follow_parts from to (x ∷ xs) ys h = let r = follow_parts (piece_end x) to xs ys h.2 in ((h.0, h.1, r.0), r.1)

pub follow_lower : (from low to : ℕ) (ps : List TwigPiece) → low ≤ from → Follow from to ps → Follow low to ps
follow_lower from low to [] le h = omega (arith, le, h)
follow_lower from low to (p ∷ ps) le h = let a = h.0 in (omega (arith, a, le), h.1, h.2)

-- ---- bytes

pub last_join : (before : Option ℕ) (xs ys : List TwigPiece) → last_end before (xs ++ ys) ≡ last_end (last_end before xs) ys
last_join before [] ys = refl
last_join before (x ∷ xs) ys = last_join (open_end x) xs ys

pub bytes_join : (before : Option ℕ) (xs ys : List TwigPiece) → bytes_behind before (xs ++ ys) ≡ bytes_behind before xs + bytes_behind (last_end before xs) ys
unfolding bytes_behind
bytes_join before [] ys = omega arith
bytes_join before (x ∷ xs) ys = let h = bytes_join (open_end x) xs ys in omega (arith, h)

abbrev cost : Bool → ℕ
cost t = if t then 16 else 54

costs : (t : Bool) → (16 ≤ cost t) × (cost t ≤ 54)
costs true = (omega arith, omega arith)
costs false = (omega arith, omega arith)

part_any : (b d : Option ℕ) (k : ℕ) (p : TwigPart) → part_bytes b k p ≤ part_bytes d k p + 38
part_any b d k (Pointer to) = omega arith
part_any b d k (Blocks u) =
    let x : part_bytes b k (Blocks u) ≡ cost (is_at b k) = refl in
    let y : part_bytes d k (Blocks u) ≡ cost (is_at d k) = refl in
    let e = costs (is_at b k) in
    let f = costs (is_at d k) in
    omega (arith, x, y, e, f)

part_most : (b : Option ℕ) (k : ℕ) (p : TwigPart) → part_bytes b k p ≤ part_bytes None k p
part_most b k (Pointer to) = omega arith
part_most b k (Blocks u) =
    let x : part_bytes b k (Blocks u) ≡ cost (is_at b k) = refl in
    let y : part_bytes None k (Blocks u) ≡ 54 = refl in
    let e = costs (is_at b k) in
    omega (arith, x, y, e)

-- Behind another piece the bytes are the same, but for a header.
pub bytes_any : (b d : Option ℕ) (ps : List TwigPiece) → bytes_behind b ps ≤ bytes_behind d ps + 38
unfolding bytes_behind
bytes_any b d [] = omega arith
bytes_any b d (p ∷ ps) = let h = part_any b d (rank p.key) p.part in omega (arith, h)

pub bytes_most : (b : Option ℕ) (ps : List TwigPiece) → bytes_behind b ps ≤ twig_bytes ps
unfolding bytes_behind
bytes_most b [] = omega arith
bytes_most b (p ∷ ps) = let h = part_most b (rank p.key) p.part in omega (arith, h)

-- Where pieces come in the place of others, their bytes come, and a header.
pub spliced_bytes : (xs ms ys ns : List TwigPiece) → twig_bytes (xs ++ (ns ++ ys)) ≤ twig_bytes (xs ++ (ms ++ ys)) + twig_bytes ns + 38
spliced_bytes xs ms ys ns =
    let a = bytes_join None xs (ns ++ ys) in
    let b = bytes_join None xs (ms ++ ys) in
    let e = last_end None xs in
    let c = bytes_join e ns ys in
    let d = bytes_join e ms ys in
    let f = bytes_most e ns in
    let g = bytes_any (last_end e ns) (last_end e ms) ys in
    omega (arith, a, b, c, d, f, g)
