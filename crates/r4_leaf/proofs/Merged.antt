-- Pieces that are put among others.
use Rattle.std.proofs.Common.{◌≡◌, ℕ, ◌+◌, ◌<◌, ◌≤◌, List, [], ◌∷◌, ◌++◌, length, inl, inr, refl, sym, ap, subst, ◌∙◌, arith}
use Rattle.std.specs.Prelude.{Contains, reverse}
use Rattle.std.proofs.lemmas.Bool.{cases_lt}
use Rattle.std.proofs.lemmas.List.{append_assoc, append-nil, reverse-append}
use Rattle.std.proofs.lemmas.List.Elements.{Contains-append_left, Contains-append_right}
use Rattle.r4_base.specs.Cell.{bytes_from}
use Rattle.r4_base.specs.Key.{rank}
use Rattle.r4_base.specs.Stat.{attr_of}
use Rattle.r4_base.specs.Value.{Value, Byte, Stat as StatValue, Entry as EntryValue}
use Rattle.r4_cde.specs.Shown.{entry_shown}
use Rattle.r4_leaf.specs.Leaves.{AreApart}
use Rattle.r4_leaf.specs.Pieces.{FirstAbove, Follow, IsSound, LastBelow, Moves, piece_end, piece_key, piece_units, units_of}
use Rattle.r4_leaf.specs.Units.{LeafUnit, put_units}
use Rattle.r4_leaf.specs.declared.piece.Piece.{Piece}
use Rattle.r4_leaf.specs.declared.piece.Piece.TheVariants.{Stat, Entry, Bytes}
use Rattle.r4_leaf.proofs.CutPieces.{Ends, follow_last, follow_lower, some_units}
use Rattle.r4_leaf.proofs.Following.{units_append, units_more}
use Rattle.r4_leaf.proofs.Rising.{Rise, bytes_rise, put_append, put_low, put_run, rise_append, rise_lower, rise_order}

-- ---- a piece's units

pub first_in : (u v : LeafUnit) (us : List LeafUnit) → u ≡ v → Contains (u ∷ us) v
first_in u v us e = (0, omega arith, e)

pub byte_at : (k : ℕ) (bs : List ℕ) (j : ℕ) → k ≤ j → j < k + length bs → (v : Value) × Contains (bytes_from k bs) (j, v)
byte_at k [] j le lt = absurd (omega (arith, le, lt))
byte_at k (b ∷ bs) j le lt = elim (cases_lt k j) [
  | inl later ↦ let h = byte_at (k + 1) bs j (omega (arith, later)) (omega (arith, lt)) in (h.0, Contains-append_right ((k, Byte b) ∷ []) (bytes_from (k + 1) bs) (j, h.0) h.1)
  | inr first ↦ let same : k ≡ j = omega (arith, le, first) in (Byte b, first_in (k, Byte b) (j, Byte b) (bytes_from (k + 1) bs) (λ i. (same i, Byte b)))
]

pub has_unit : (p : Piece) (j : ℕ) → rank (piece_key p) ≤ j → j < piece_end p → (v : Value) × Contains (piece_units p) (j, v)
unfolding piece_units
has_unit (Stat k body) j le lt = let same : rank k ≡ j = omega (arith, le, lt) in (StatValue (attr_of body.now), first_in _ _ [] (λ i. (same i, StatValue (attr_of body.now))))
has_unit (Entry e) j le lt = let same : rank e.key ≡ j = omega (arith, le, lt) in (EntryValue (entry_shown e).name e.target, first_in _ _ [] (λ i. (same i, EntryValue (entry_shown e).name e.target)))
has_unit (Bytes k bytes) j le lt = byte_at (rank k) bytes j le lt

pub piece_rise : (p : Piece) → Rise (rank (piece_key p)) (piece_end p) (piece_units p)
unfolding piece_units
piece_rise (Stat k body) = (omega arith, omega arith)
piece_rise (Entry e) = (omega arith, omega arith)
piece_rise (Bytes k bytes) = bytes_rise (rank k) bytes

pub pieces_rise : (from to : ℕ) (ps : List Piece) → Follow from to ps → Rise from to (units_of ps)
pieces_rise from to [] h = h
pieces_rise from to (p ∷ ps) h = rise_append from (piece_end p) to (piece_units p) (units_of ps) (rise_lower (rank (piece_key p)) from (piece_end p) (piece_units p) h.0 (piece_rise p)) (pieces_rise (piece_end p) to ps h.2)

-- ---- pieces that have no key in common

both_at : (p q : Piece) (j : ℕ) → AreApart (piece_units p) (piece_units q) → rank (piece_key p) ≤ j → j < piece_end p → rank (piece_key q) ≤ j → j < piece_end q → ⊥
both_at p q j apart a b c d = let x = has_unit p j a b in let y = has_unit q j c d in apart j x.0 y.0 x.1 y.1

pub ends_before : (p q : Piece) → IsSound q → AreApart (piece_units p) (piece_units q) → rank (piece_key p) ≤ rank (piece_key q) → piece_end p ≤ rank (piece_key q)
ends_before p q sound apart le = elim (cases_lt (rank (piece_key q)) (piece_end p)) [
  | inl within ↦ absurd (both_at p q (rank (piece_key q)) apart le within (omega arith) (some_units q sound))
  | inr past ↦ past
]

apart_turned : (us vs : List LeafUnit) → AreApart us vs → AreApart vs us
apart_turned us vs apart k v w a b = apart k w v b a

pub apart_left : (us vs ws : List LeafUnit) → AreApart (us ++ vs) ws → AreApart us ws
apart_left us vs ws apart k v w a b = apart k v w (Contains-append_left us vs (k, v) a) b

pub apart_right : (us vs ws : List LeafUnit) → AreApart (us ++ vs) ws → AreApart vs ws
apart_right us vs ws apart k v w a b = apart k v w (Contains-append_right us vs (k, v) a) b

-- ---- lists of pieces

pub follow_append : (a b c : ℕ) (ps qs : List Piece) → Follow a b ps → Follow b c qs → Follow a c (ps ++ qs)
follow_append a b c [] qs h g = follow_lower b a c qs h g
follow_append a b c (p ∷ ps) qs h g = (h.0, h.1, follow_append (piece_end p) b c ps qs h.2 g)

pub follow_split : (a c : ℕ) (ps qs : List Piece) → Follow a c (ps ++ qs) → (b : ℕ) × Follow a b ps × Follow b c qs
follow_split a c [] qs h = (a, omega arith, h)
follow_split a c (p ∷ ps) qs h = let r = follow_split (piece_end p) c ps qs h.2 in (r.0, (h.0, h.1, r.1), r.2)

-- the last key is the highest
last_highest : (a b k : ℕ) (p : Piece) (ps : List Piece) → LastBelow k (p ∷ ps) → Follow a b (p ∷ ps) → rank (piece_key p) < k
last_highest a b k p [] last h = last
last_highest a b k p (q ∷ ps) last h =
    let more = last_highest (piece_end p) b k q ps last h.2 in
    let some = some_units p h.1 in
    let next = h.2.0 in
    omega (arith, more, some, next)

-- up to a key that is above the last piece's and none of theirs
follow_to : (a b : ℕ) (ps : List Piece) (g : Piece) → IsSound g → a ≤ rank (piece_key g) → AreApart (units_of ps) (piece_units g) → LastBelow (rank (piece_key g)) ps → Follow a b ps → Follow a (rank (piece_key g)) ps
follow_to a b [] g sound le apart last h = le
follow_to a b (p ∷ ps) g sound le apart last h =
    let low = last_highest a b (rank (piece_key g)) p ps last h in
    let end = ends_before p g sound (apart_left (piece_units p) (units_of ps) (piece_units g) apart) (omega (arith, low)) in
    (h.0, h.1, follow_to (piece_end p) b ps g sound end (apart_right (piece_units p) (units_of ps) (piece_units g) apart) (behind (rank (piece_key g)) p ps last) h.2)
  where
    behind : (k : ℕ) (p : Piece) (ps : List Piece) → LastBelow k (p ∷ ps) → LastBelow k ps
    behind k p [] last = tt
    behind k p (q ∷ ps) last = last

-- from the end of a piece whose key is at most the first one's, and none of theirs
follow_from : (a b : ℕ) (ps : List Piece) (g : Piece) → AreApart (units_of ps) (piece_units g) → piece_end g ≤ b → FirstAbove (rank (piece_key g)) ps → Follow a b ps → Follow (piece_end g) b ps
follow_from a b [] g apart end first h = end
follow_from a b (p ∷ ps) g apart end first h =
    (ends_before g p h.1 (apart_turned (piece_units p) (piece_units g) (apart_left (piece_units p) (units_of ps) (piece_units g) apart)) first, h.1, h.2)

-- ---- one more of the given pieces is put in

pub record IsMerged (given0 pieces0 given pieces merged : List Piece) : Type 0 where
  pub units : put_units (units_of given) (units_of pieces) ++ units_of (reverse merged) ≡ put_units (units_of given0) (units_of pieces0)
  pub follow : (lo hi : ℕ) → Follow lo hi pieces0 → Follow lo hi given0 → (mid : ℕ) × Follow lo mid pieces × Follow lo mid given × Follow mid hi (reverse merged)
  pub apart : AreApart (units_of pieces) (units_of given)

pub merge_begins : (given pieces : List Piece) → AreApart (units_of pieces) (units_of given) → IsMerged given pieces given pieces []
merge_begins given pieces apart = record { units = append-nil (put_units (units_of given) (units_of pieces)); follow = λ lo hi h g. (hi, h, g, omega arith); apart = apart }

module _ (given0 pieces0 given pieces merged gs left moved_on new : List Piece) (g : Piece) (is : given ≡ gs ++ g ∷ []) (m : IsMerged given0 pieces0 given pieces merged)
    (moves : Moves (rank (piece_key g)) pieces merged left moved_on) (pushed : new ≡ moved_on ++ g ∷ []) where
  units_split : units_of pieces ≡ units_of left ++ units_of moves.moved
  units_split = ap units_of moves.from ∙ units_append left moves.moved

  given_split : units_of given ≡ units_of gs ++ piece_units g
  given_split = ap units_of is ∙ units_more gs g

  apart_all : AreApart (units_of left ++ units_of moves.moved) (units_of gs ++ piece_units g)
  apart_all = subst (λ us. AreApart us (units_of gs ++ piece_units g)) units_split (subst (λ vs. AreApart (units_of pieces) vs) given_split m.apart)

  apart_g : (us : List LeafUnit) → AreApart us (units_of gs ++ piece_units g) → AreApart us (piece_units g)
  apart_g us apart k v w a b = apart k v w a (Contains-append_right (units_of gs) (piece_units g) (k, w) b)

  apart_gs : (us : List LeafUnit) → AreApart us (units_of gs ++ piece_units g) → AreApart us (units_of gs)
  apart_gs us apart k v w a b = apart k v w a (Contains-append_left (units_of gs) (piece_units g) (k, w) b)

  apart_left_g : AreApart (units_of left) (piece_units g)
  apart_left_g = apart_left (units_of left) (units_of moves.moved) (piece_units g) (apart_g _ apart_all)

  apart_moved_g : AreApart (units_of moves.moved) (piece_units g)
  apart_moved_g = apart_right (units_of left) (units_of moves.moved) (piece_units g) (apart_g _ apart_all)

  turned : reverse new ≡ g ∷ (moves.moved ++ reverse merged)
  turned = ap reverse pushed ∙ (reverse-append moved_on (g ∷ []) ∙ ap (λ ps. g ∷ ps) moves.to)

  module _ (lo mid : ℕ) (fp : Follow lo mid pieces) (fg : Follow lo mid given) where
    ends : Ends lo mid gs g
    ends = follow_last lo mid gs g (subst (λ ps. Follow lo mid ps) is fg)

    split : (b : ℕ) × Follow lo b left × Follow b mid moves.moved
    split = follow_split lo mid left moves.moved (subst (λ ps. Follow lo mid ps) moves.from fp)

    low_order : lo ≤ rank (piece_key g)
    low_order = rise_order lo (rank (piece_key g)) (units_of gs) (pieces_rise lo (rank (piece_key g)) gs ends.before)

    left_to : Follow lo (rank (piece_key g)) left
    left_to = follow_to lo split.0 left g ends.sound low_order apart_left_g moves.below split.1

    moved_from : Follow (piece_end g) mid moves.moved
    moved_from = follow_from split.0 mid moves.moved g apart_moved_g ends.end moves.above split.2

    units_put : put_units (units_of given) (units_of pieces) ≡ put_units (units_of gs) (units_of left) ++ (piece_units g ++ units_of moves.moved)
    units_put =
        let rise_left = pieces_rise lo (rank (piece_key g)) left left_to in
        let rise_moved = pieces_rise (piece_end g) mid moves.moved moved_from in
        (λ i. put_units (given_split i) (units_split i))
        ∙ (put_append (units_of gs) (piece_units g) (units_of left ++ units_of moves.moved)
        ∙ (ap (put_units (units_of gs)) (put_run lo (rank (piece_key g)) (piece_end g) mid (piece_units g) (units_of left) (units_of moves.moved) rise_left (piece_rise g) rise_moved)
        ∙ put_low lo (rank (piece_key g)) mid (units_of gs) (units_of left) (piece_units g ++ units_of moves.moved) (pieces_rise lo (rank (piece_key g)) gs ends.before)
        (rise_append (rank (piece_key g)) (piece_end g) mid (piece_units g) (units_of moves.moved) (piece_rise g) rise_moved)))

  pub merge_more : (lo hi : ℕ) → Follow lo hi pieces0 → Follow lo hi given0 → IsMerged given0 pieces0 gs left new
  merge_more lo0 hi0 h0 g0 = record {
    units =
        let f = m.follow lo0 hi0 h0 g0 in
        ap (λ ps. put_units (units_of gs) (units_of left) ++ units_of ps) turned
        ∙ (ap (λ us. put_units (units_of gs) (units_of left) ++ (piece_units g ++ us)) (units_append moves.moved (reverse merged))
        ∙ (ap (λ us. put_units (units_of gs) (units_of left) ++ us) (sym (append_assoc (piece_units g) (units_of moves.moved) (units_of (reverse merged))))
        ∙ (sym (append_assoc (put_units (units_of gs) (units_of left)) (piece_units g ++ units_of moves.moved) (units_of (reverse merged)))
        ∙ (ap (λ us. us ++ units_of (reverse merged)) (sym (units_put lo0 f.0 f.1 f.2)) ∙ m.units))));
    follow = λ lo hi h gh.
        let f = m.follow lo hi h gh in
        let e = ends lo f.0 f.1 f.2 in (
          rank (piece_key g),
          left_to lo f.0 f.1 f.2,
          e.before,
          subst (λ ps. Follow (rank (piece_key g)) hi ps) (sym turned) (omega arith, e.sound, follow_append (piece_end g) f.0 hi moves.moved (reverse merged) (moved_from lo f.0 f.1 f.2) f.3),
        );
    apart = apart_gs (units_of left) (apart_left (units_of left) (units_of moves.moved) (units_of gs ++ piece_units g) apart_all);
  }

pub merge_ended : (given0 pieces0 given pieces merged new : List Piece) → given ≡ [] → reverse new ≡ pieces ++ reverse merged → IsMerged given0 pieces0 given pieces merged
    → (units_of (reverse new) ≡ put_units (units_of given0) (units_of pieces0)) × ((lo hi : ℕ) → Follow lo hi pieces0 → Follow lo hi given0 → Follow lo hi (reverse new))
merge_ended given0 pieces0 given pieces merged new none is m = (
  ap units_of is ∙ (units_append pieces (reverse merged) ∙ (ap (λ ps. put_units (units_of ps) (units_of pieces) ++ units_of (reverse merged)) (sym none) ∙ m.units)),
  λ lo hi h g. let f = m.follow lo hi h g in subst (λ ps. Follow lo hi ps) (sym is) (follow_append lo f.0 hi pieces (reverse merged) f.1 f.3),
)

-- ---- pieces that are moved

pub last_below : (k : ℕ) (ps : List Piece) (p : Piece) → rank (piece_key p) < k → LastBelow k (ps ++ p ∷ [])
last_below k [] p lt = lt
last_below k (q ∷ []) p lt = lt
last_below k (q ∷ (r ∷ ps)) p lt = last_below k (r ∷ ps) p lt

-- So many are moved, and none of the rest was looked at.
pub record Moving (k : ℕ) (pieces merged left new : List Piece) : Type 0 where
  pub moved : List Piece
  pub from : pieces ≡ left ++ moved
  pub to : reverse new ≡ moved ++ reverse merged
  pub above : FirstAbove k moved

pub moves_begin : (k : ℕ) (pieces merged : List Piece) → Moving k pieces merged pieces merged
moves_begin k pieces merged = record { moved = []; from = sym (append-nil pieces); to = refl; above = tt }

pub moves_one : (k : ℕ) (pieces merged ps ms left new : List Piece) (p : Piece) → ps ≡ left ++ p ∷ [] → new ≡ ms ++ p ∷ [] → k ≤ rank (piece_key p) → Moving k pieces merged ps ms → Moving k pieces merged left new
moves_one k pieces merged ps ms left new p popped pushed le m = record {
  moved = p ∷ m.moved;
  from = m.from ∙ (ap (λ xs. xs ++ m.moved) popped ∙ append_assoc left (p ∷ []) m.moved);
  to = ap reverse pushed ∙ (reverse-append ms (p ∷ []) ∙ ap (λ xs. p ∷ xs) m.to);
  above = le;
}

pub moves_end : (k : ℕ) (pieces merged left new : List Piece) → LastBelow k left → Moving k pieces merged left new → Moves k pieces merged left new
moves_end k pieces merged left new last m = record { moved = m.moved; from = m.from; to = m.to; above = m.above; below = last }
