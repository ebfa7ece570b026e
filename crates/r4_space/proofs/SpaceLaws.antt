-- A space as a whole.
use Rattle.std.proofs.Common.{◌≡◌, ℕ, suc, ◌+◌, ◌-◌, ◌<◌, ◌≤◌, Bool, true, false, not, ◌||◌, eqb, List, [], ◌∷◌, length, get_or, refl, sym, ap, ◌∙◌, arith}
use Rattle.std.specs.Prelude.{map, replicate, count_by, nat_le, None, Vec}
use Rattle.std.specs.Vec.{with_items}
use Rattle.std.specs.List.{range_with_len}
use Rattle.std.proofs.lemmas.Bool.{false_from_ne_true, or_left, ne_eqb}
use Rattle.std.proofs.lemmas.List.{length-replicate, get_or-replicate, get_or_past, with_items_is}
use Rattle.std.proofs.lemmas.List.FromFn.{length-map-range_with_len, get_or-map-range_with_len}
use Rattle.std.proofs.lemmas.List.Sums.{length-filter, count_by-le-length}
use Rattle.r4_base.specs.Bitmap.{is_fixed, bitmap_count}
use Rattle.r4_base.specs.declared.things.AtomNo.{AtomNo}
use Rattle.r4_space.specs.declared.things.Account.{Account}
use Rattle.r4_space.specs.declared.things.Claim.{Claim}
use Rattle.r4_space.specs.Accounts.{dues, is_atom}
use Rattle.r4_space.specs.Space.{claims_of, claims_without, is_claimed, free_of, freed_by, is_marked_after, is_marked_by, is_taken_by, unused_count, up_to}
use Rattle.r4_space.specs.Kept.{AreBlocks, AreClaimed, AreWithin, IsSpace}
use Rattle.r4_space.specs.Bitmaps.{bitmaps_fault, marks}
use Rattle.r4_space.proofs.BitmapLaws.{fixed_marked}
use Rattle.r4_space.proofs.ClaimLaws.{within-without, unused_is}

-- ---- what is free

pub free_is : (n : ℕ) (marked placed : List Bool) (held deferred : List Claim) (claimed twice taken : List Bool) (bitmaps spare room_held room_deferred : ℕ) (atoms : List Account) (sealed : List AtomNo) → IsSpace n marked placed held deferred claimed twice taken bitmaps spare room_held room_deferred
    → count_by not taken - dues bitmaps atoms ≡ free_of (record { block_count = n; marked = marked; placed = placed; held = held; deferred = deferred; atoms = atoms; sealed = sealed; spare = spare })
unfolding unused_count
free_is n marked placed held deferred claimed twice taken bitmaps spare room_held room_deferred atoms sealed is =
    rw (unused_is n marked placed taken held deferred is.blocks, is.bitmaps_are) refl

-- ---- an unused block is no fixed one

pub unused_free : (n b : ℕ) (marked placed taken : List Bool) (held deferred : List Claim) → AreBlocks n marked placed held deferred taken → b < n → get_or taken b true ≡ false → is_fixed n b ≡ false
unfolding is_taken_by
unused_free n b marked placed taken held deferred is lt clear = false_from_ne_true (is_fixed n b) (λ f.
    let on : get_or taken b true ≡ true = is.tells b lt ∙ or_left (get_or marked b false) _ (is.fixed b lt f) in
    cc)

-- an unused block is not claimed
pub unclaimed_of : (n b : ℕ) (marked placed taken : List Bool) (held deferred : List Claim) → AreBlocks n marked placed held deferred taken → b < n → get_or taken b true ≡ false → (is_claimed held b ≡ false) × (is_claimed deferred b ≡ false)
unfolding is_taken_by
unclaimed_of n b marked placed taken held deferred is lt clear = last_two (get_or marked b false) (get_or placed b false) (is_claimed held b) (is_claimed deferred b) (sym (is.tells b lt) ∙ clear)
  where
    last_two : (m p h d : Bool) → (m || (p || (h || d))) ≡ false → (h ≡ false) × (d ≡ false)
    last_two true p h d e = absurd cc
    last_two false true h d e = absurd cc
    last_two false false true d e = absurd cc
    last_two false false false d e = (refl, e)

-- past the last block nothing is used
none_past : (n b : ℕ) (claims : List Claim) → AreWithin n claims → n ≤ b → is_claimed claims b ≡ false
none_past n b [] within le = refl
none_past n b (c ∷ rest) within le =
    let here : c.block.0 < n = within 0 c (omega arith) in
    let miss : eqb c.block.0 b ≡ false = ne_eqb _ _ (omega arith) in
    rw miss (none_past n b rest (λ k d lt. within (suc k) d (omega arith)) le)

pub unused_past : (n b : ℕ) (marked placed taken : List Bool) (held deferred : List Claim) → AreBlocks n marked placed held deferred taken → n ≤ b → is_taken_by marked placed held deferred b ≡ false
unfolding is_taken_by
unused_past n b marked placed taken held deferred is le =
    let m = is.marked_size in
    let p = is.placed_size in
    let no_mark : get_or marked b false ≡ false = get_or_past marked b false (omega arith) in
    let no_place : get_or placed b false ≡ false = get_or_past placed b false (omega arith) in
    rw (no_mark, no_place, none_past n b held is.held_within le, none_past n b deferred is.deferred_within le) refl

-- ---- room

pub space_blocks : (n : ℕ) (marked placed marked' placed' : List Bool) (held deferred held' deferred' : List Claim) (claimed twice claimed' twice' taken taken' : List Bool) (bitmaps spare less room_held room_deferred more_held more_deferred : ℕ) → IsSpace n marked placed held deferred claimed twice taken bitmaps spare room_held room_deferred
    → AreBlocks n marked' placed' held' deferred' taken' → AreClaimed n held' deferred' claimed' twice' → length held' + less ≤ length held + spare → length deferred' + less ≤ length deferred + spare → room_held ≤ more_held → room_deferred ≤ more_deferred
    → IsSpace n marked' placed' held' deferred' claimed' twice' taken' bitmaps less more_held more_deferred
space_blocks n marked placed marked' placed' held deferred held' deferred' claimed twice claimed' twice' taken taken' bitmaps spare less room_held room_deferred more_held more_deferred is blocks claims a b c d =
    let e = is.enough_held in
    let f = is.enough_deferred in
    record { blocks = blocks; claims = claims; bitmaps_are = is.bitmaps_are; enough_held = omega arith; enough_deferred = omega arith }

-- ---- an atom settles

unfixed : (n b : ℕ) (marked placed : List Bool) (freed : List Claim) → is_fixed n b ≡ true → is_marked_after n marked placed freed b ≡ true
unfolding is_marked_after
unfixed n b marked placed freed f = or_left (is_fixed n b) _ f

pub blocks_settled : (n : ℕ) (marked placed new placed' taken taken' : List Bool) (held deferred : List Claim) (atom : AtomNo) → AreBlocks n marked placed held deferred taken
    → new ≡ map (is_marked_after n marked placed (claims_of atom deferred)) (range_with_len 0 n) → placed' ≡ replicate n false → length taken' ≡ n
    → ((b : ℕ) → b < n → get_or taken' b true ≡ is_taken_by new placed' (claims_without atom held) (claims_without atom deferred) b)
    → AreBlocks n new placed' (claims_without atom held) (claims_without atom deferred) taken'
blocks_settled n marked placed new placed' taken taken' held deferred atom is marks none size tells = record {
  least = is.least;
  most = is.most;
  marked_size = ap length marks ∙ length-map-range_with_len (is_marked_after n marked placed (claims_of atom deferred)) 0 n;
  placed_size = ap length none ∙ length-replicate n false;
  taken_size = size;
  fixed = λ b lt f. ap (λ (bits : List Bool). get_or bits b false) marks ∙ get_or-map-range_with_len (is_marked_after n marked placed (claims_of atom deferred)) 0 n b b false lt (omega arith) ∙ unfixed n b marked placed (claims_of atom deferred) f;
  tells = tells;
  held_within = within-without n atom held is.held_within;
  deferred_within = within-without n atom deferred is.deferred_within;
}

-- ---- rows, after their elements are changed

pub changed : {X Z : Type 0} (v : Vec X Z) (was new : List X) → was ≡ v.items → length new ≡ length was → (with_items v new).items ≡ new
changed v was new is long = with_items_is v new (long ∙ ap length is ∙ sym v.ok.0)

pub le_along : (a b c d : ℕ) → a ≡ b → c ≡ d → a ≤ c → b ≤ d
le_along a b c d e f h = omega arith

pub same_taken : (m m' p p' : List Bool) (h h' d d' : List Claim) (b : ℕ) → m ≡ m' → p ≡ p' → h ≡ h' → d ≡ d' → is_taken_by m p h d b ≡ is_taken_by m' p' h' d' b
same_taken m m' p p' h h' d d' b e f g k = rw (e, f, g, k) refl

pub same_marks : (n : ℕ) (m m' p p' new : List Bool) (f f' : List Claim) → m ≡ m' → p ≡ p' → f ≡ f' → length m' ≡ n → new ≡ map (is_marked_after (length m) m p f) (range_with_len 0 (length m)) → new ≡ map (is_marked_after n m' p' f') (range_with_len 0 n)
same_marks n m m' p p' new f f' a b c d e = e ∙ rw (a, b, c, d) refl

pub fewer : (atom : AtomNo) (claims : List Claim) (spare : ℕ) → length (claims_without atom claims) + spare ≤ length claims + spare
fewer atom claims spare =
    let count = length-filter (λ (c : Claim). not (is_atom atom c.atom)) claims in
    let most = count_by-le-length (λ (c : Claim). not (is_atom atom c.atom)) claims in
    omega arith

-- ---- a bitmap

pub marked_by : (n b : ℕ) (m m' p p' : List Bool) (h d d' : List Claim) (atoms : List Account) (sealed sealed' : List AtomNo) (spare : ℕ) (atom : AtomNo) (x : Bool) → m ≡ m' → p ≡ p' → d ≡ d' → sealed ≡ sealed' → length m' ≡ n
    → x ≡ (nat_le (length m) b || is_marked_after (length m) m p (freed_by (up_to sealed atom) d) b)
    → x ≡ is_marked_by (record { block_count = n; marked = m'; placed = p'; held = h; deferred = d'; atoms = atoms; sealed = sealed'; spare = spare }) atom b
unfolding is_marked_by
marked_by n b m m' p p' h d d' atoms sealed sealed' spare atom x e f g k size is = is ∙ rw (e, f, g, k, size) refl

-- ---- the space that bitmaps tell

told_alike : (m : Bool) → (false || m) ≡ (m || (false || (false || false)))
told_alike true = refl
told_alike false = refl

pub blocks_told : (n free : ℕ) (bitmaps : List (List ℕ)) (marked placed taken was : List Bool) (held deferred : List Claim) → 64 ≤ n → n ≤ 1048576 → length bitmaps ≡ bitmap_count n → bitmaps_fault n free bitmaps ≡ None
    → marked ≡ map (marks bitmaps) (range_with_len 0 n) → placed ≡ replicate n false → was ≡ replicate n false → held ≡ [] → deferred ≡ [] → length taken ≡ length was
    → ((b : ℕ) → b < length was → get_or taken b true ≡ (get_or was b true || get_or marked b false)) → AreBlocks n marked placed held deferred taken
unfolding is_taken_by
blocks_told n free bitmaps marked placed taken was held deferred least most size none marks_are places were held_none deferred_none same each =
    let count : length was ≡ n = ap length were ∙ length-replicate n false in
    record {
      least = least;
      most = most;
      marked_size = ap length marks_are ∙ length-map-range_with_len (marks bitmaps) 0 n;
      placed_size = ap length places ∙ length-replicate n false;
      taken_size = same ∙ count;
      fixed = λ b lt f. ap (λ (bits : List Bool). get_or bits b false) marks_are ∙ get_or-map-range_with_len (marks bitmaps) 0 n b b false lt (omega arith) ∙ fixed_marked n free b bitmaps none size lt f;
      tells = λ b lt.
          let clear : get_or was b true ≡ false = ap (λ (bits : List Bool). get_or bits b true) were ∙ get_or-replicate n b false true lt in
          let unplaced : get_or placed b false ≡ false = ap (λ (bits : List Bool). get_or bits b false) places ∙ get_or-replicate n b false false lt in
          each b (omega arith) ∙ rw (clear, unplaced, held_none, deferred_none) (told_alike (get_or marked b false));
      held_within = rw held_none (λ k d h. absurd (omega arith));
      deferred_within = rw deferred_none (λ k d h. absurd (omega arith));
    }
