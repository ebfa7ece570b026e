-- What a crash leaves while a transaction is put in place.
use Rattle.std.proofs.Common.{◌≡◌, ◌⊎◌, inl, inr, ⊎_elim, ℕ, suc, ◌+◌, ◌<◌, ◌≤◌, List, ◌∷◌, length, drop, get_or, map, slice_set, sym, ◌∙◌, subst, arith, Result, Ok, add-one, drop-cons}
use Rattle.std.specs.Prelude.{All}
use Rattle.std.proofs.Math.ListN.{get_or-map}
use Rattle.std.proofs.lemmas.List.{length-map}
use Rattle.std.proofs.lemmas.List.Elements.{Contains-get_or, All-get_or}
use Rattle.r4_base.specs.Image.{Image, block_at, put_pairs}
use Rattle.r4_base.specs.Chain.{PairInRange, IsOriginalNumber}
use Rattle.r4_base.proofs.Members.{member_or_not}
use Rattle.r4_base.proofs.Frame.{firsts, past}
use Rattle.r4_outside.specs.Device.{State, Sectors, Goes, Writes, Syncs, IsQuiet, HasSectors, only, IsTorn, Spares}
use Rattle.r4_outside.proofs.Images.{same_sectors}
use Rattle.r4_outside.proofs.Moments.{Run, or_torn, run_write, run_sync, run_synced, torn_one, spares_both, spares_more}
use Rattle.r4_replay.specs.Placing.{IsOriginalOf, LeftByPut}

-- ---- one pair more

number_below : (n b : ℕ) → IsOriginalNumber n b → 20 < n → b < n
number_below n b (inl is) more = omega arith
number_below n b (inr (inl is)) more = omega arith
number_below n b (inr (inr range)) more = range.1

pub original_below : (n m : ℕ) (ps : List (ℕ × ℕ)) (i : ℕ) (d : ℕ × ℕ) → m ≡ n → All (PairInRange n) ps → i < length ps → 20 < n → (get_or ps i d).0 < m
original_below n m ps i d e all lt more = let one = All-get_or (PairInRange n) ps i d lt all in let below : (get_or ps i d).0 < n = number_below n (get_or ps i d).0 one.0 more in omega (arith, below, e)

pub wandered_below : (n m : ℕ) (ps : List (ℕ × ℕ)) (i : ℕ) (d : ℕ × ℕ) → m ≡ n → All (PairInRange n) ps → i < length ps → (get_or ps i d).1 < m
wandered_below n m ps i d e all lt = let one = All-get_or (PairInRange n) ps i d lt all in let below : (get_or ps i d).1 < n = one.1.1 in omega (arith, below, e)

pub copied_step : (ps : List (ℕ × ℕ)) (i : ℕ) (now new whole : Image) → i < length ps → put_pairs (drop i ps) now ≡ whole → new ≡ slice_set now (get_or ps i (0, 0)).0 (block_at now (get_or ps i (0, 0)).1) → put_pairs (drop (i + 1) ps) new ≡ whole
copied_step ps i now new whole lt so_far step =
    let split : drop i ps ≡ get_or ps i (0, 0) ∷ drop (suc i) ps = drop-cons ps i (0, 0) lt in
    let one : put_pairs (get_or ps i (0, 0) ∷ drop (suc i) ps) now ≡ whole = subst (λ (l : List (ℕ × ℕ)). put_pairs l now ≡ whole) split so_far in
    rw (add-one, step) one

pub spares_pair : (ps : List (ℕ × ℕ)) (i : ℕ) (start old new : State) → i < length ps → Spares (IsOriginalOf ps) start old → Goes start old → Spares (λ b. b ≡ (get_or ps i (0, 0)).0) old new → Goes old new → Spares (IsOriginalOf ps) start new
spares_pair ps i start old new lt so_far went one goes =
    spares_both (IsOriginalOf ps) start old new so_far
    (spares_more (λ b. b ≡ (get_or ps i (0, 0)).0) (IsOriginalOf ps) old new (λ k is. subst (IsOriginalOf ps) (sym is)
    (subst (IsOriginalOf ps) (get_or-map (λ (p : ℕ × ℕ). p.0) ps i (0, 0)) (Contains-get_or (map (λ (p : ℕ × ℕ). p.0) ps) i 0 (omega (arith, lt, length-map {A = ℕ × ℕ} ps (λ p. p.0)))))) one) went goes

module _ (s0 : State) (ps : List (ℕ × ℕ)) (footer : List ℕ) (in_range : 20 < s0.blocks) (quiet : IsQuiet s0) where
  abbrev P : Image → Type 0
  P image = LeftByPut ps footer s0.seen image

  -- anything in the originals, and elsewhere what was there
  abbrev Q : Sectors
  Q b s x = IsOriginalOf ps b ⊎ only s0.seen b s x

  outside : (image : Image) → HasSectors s0.blocks Q image → P image
  outside image h = inl (record {
    blocks = h.blocks ∙ sym quiet.tells.blocks;
    others = λ b out. past image s0.seen b (h.blocks ∙ sym quiet.tells.blocks) (λ lb. let lt : b < s0.blocks = omega (arith, lb, quiet.tells.blocks) in
        same_sectors (block_at image b) (block_at s0.seen b) (h.whole b lt) (quiet.tells.whole b lt) (λ s ls. ⊎_elim (λ is. absurd (out is)) (λ same. same) (h.sectors b s lt ls)));
  })

  module _ (s1 : State) (goes : Goes s0 s1) (spares : Spares (IsOriginalOf ps) s0 s1) where
    spared : (m b s : ℕ) (x : List ℕ) → s0.clock ≤ m → m ≤ s1.clock → b < s0.blocks → s < 8 → s1.may_hold m b s x → Q b s x
    spared m b s x lo hi lb ls may = ⊎_elim inl (λ out. inr (quiet.within.each b s x lb ls (spares.each m b s x lo hi ls out may))) (member_or_not (firsts ps) b)

    pub copied : Run s0 s1 Q P
    copied = record {
      so_far = record {
        each = λ m image lo hi left. outside image (record {
          blocks = left.blocks ∙ goes.blocks;
          whole = λ b lb. left.whole b (omega (arith, lb, goes.blocks));
          sectors = λ b s lb ls. spared m b s _ lo hi lb ls (left.sectors b s (omega (arith, lb, goes.blocks)) ls);
        });
      };
      goes = goes;
      within = record { each = λ b s x lb ls may. spared s1.clock b s x goes.time (omega arith) (omega (arith, lb, goes.blocks)) ls may };
      has = outside;
    }

    pub copied_synced : {T E : Type 0} (s2 : State) (r2 : Result T E) → Syncs s1 r2 s2 → Run s0 s2 Q P
    copied_synced s2 r2 y = run_sync s0 s1 s2 Q P copied r2 y

    -- after the copies and a good sync
    module _ {T E : Type 0} (placed : s1.seen ≡ put_pairs ps s0.seen) (s2 : State) (v : T) (y : Syncs {E = E} s1 (Ok v) s2) where
      settled : Run s0 s2 (only s2.seen) P
      settled = run_synced s0 s1 s2 Q P copied v y quiet.tells

      torn : (image : Image) → HasSectors s0.blocks (or_torn (only s2.seen) 20 footer) image → P image
      torn image h = inr (subst (λ (i : Image). IsTorn 20 footer i image) (y.seen ∙ placed)
          (torn_one s0.blocks 20 footer _ s2.seen image in_range (subst (λ (n : ℕ). HasSectors n (s2.may_hold s2.clock) s2.seen) settled.goes.blocks (settled.goes.crashes.1 quiet.tells)) h))

      pub footed : (s3 : State) (r3 : Result T E) → Writes 20 footer s2 r3 s3 → Run s0 s3 (or_torn (only s2.seen) 20 footer) P
      footed s3 r3 w = run_write s0 s2 s3 _ P settled 20 footer r3 w torn

      pub footed_synced : (s3 s4 : State) (r3 r4 : Result T E) → Writes 20 footer s2 r3 s3 → Syncs s3 r4 s4 → Run s0 s4 (or_torn (only s2.seen) 20 footer) P
      footed_synced s3 s4 r3 r4 w y4 = run_sync s0 s3 s4 _ P (footed s3 r3 w) r4 y4
