-- A block that was made, as a cell.
use Rattle.std.proofs.Common.{refl, get_or, zero, suc, ◌<◌, ◌≡◌, ◌⊎◌, inl, inr, ℕ, ◌+◌, List, length, replicate, sym, ap, subst, ◌∙◌, arith}
use Rattle.std.specs.Prelude.{unwrap_or}
use Rattle.std.proofs.lemmas.List.{ext_get_or, get_or-replicate, length-replicate}
use Rattle.r4_base.specs.Key.{later, rank}
use Rattle.r4_base.specs.Lending.{refilled}
use Rattle.r4_base.specs.declared.key.Key.{Key}
use Rattle.r4_base.proofs.Lent.{refilled_is}
use Rattle.r4_cell.specs.Seen.{CellSeen}
use Rattle.r4_content.specs.Edited.{Edits}
use Rattle.r4_extent_blocks.specs.Setting.{AreSet, IsOverwritten, SetsAll, byte_set, new_bytes, new_cell}
use Rattle.r4_extent_blocks.proofs.Sets.{set_over}

long_bytes : (e : Edits) (k n : ℕ) → length (new_bytes e k n) ≡ n
unfolding new_bytes
long_bytes e k zero = refl
long_bytes e k (suc n) = ap suc (long_bytes e (k + 1) n)

byte_at : (e : Edits) (k n i : ℕ) → i < n → get_or (new_bytes e k n) i 0 ≡ unwrap_or (byte_set e (k + i)) 0
unfolding new_bytes
byte_at e k zero i lt = absurd (omega (arith, lt))
byte_at e k (suc n) zero lt = ap (λ (j : ℕ). unwrap_or (byte_set e j) 0) (let same : k ≡ k + 0 = omega arith in same)
byte_at e k (suc n) (suc i) lt =
    byte_at e (k + 1) n i (omega (arith, lt)) ∙ ap (λ (j : ℕ). unwrap_or (byte_set e j) 0) (let same : k + 1 + i ≡ k + suc i = omega arith in same)

pub new_whole : (e : Edits) (k : ℕ) → length (new_bytes e k 4096) ≡ 4096
new_whole e k = long_bytes e k 4096

new_are : (e : Edits) (lo : ℕ) (ys : List ℕ) → AreSet (byte_set e) lo (replicate 4096 0) ys → ys ≡ new_bytes e lo 4096
new_are e lo ys set =
    let n : length (replicate {A = ℕ} 4096 0) ≡ 4096 = length-replicate {A = ℕ} 4096 0 in
    let l = set.long in
    let m = long_bytes e lo 4096 in
    ext_get_or 0 ys (new_bytes e lo 4096) (omega (arith, l, m, n)) (λ i lt.
    let below : i < 4096 = omega (arith, lt, l, n) in
    set.each i (omega (arith, lt, l)) ∙ (ap (λ (d : ℕ). unwrap_or (byte_set e (lo + i)) d) (get_or-replicate 4096 i 0 0 below) ∙ sym (byte_at e lo 4096 i below)))

pub new_is : (e : Edits) (id : ℕ) (lo hi : Key) (xs ys : List ℕ) (c : CellSeen) → hi ≡ later lo 4096 → xs ≡ replicate 4096 0 → AreSet (byte_set e) (rank lo) xs ys
    → c ≡ record { id = id; level = 0; lo = lo; hi = hi; block = refilled xs ys } → c ≡ new_cell e id lo
new_is e id lo hi xs ys c end zeros set is =
    let bytes : refilled xs ys ≡ new_bytes e (rank lo) 4096 = refilled_is xs ys set.long ∙ new_are e (rank lo) ys (subst (λ (b : List ℕ). AreSet (byte_set e) (rank lo) b ys) zeros set) in
    is ∙ (λ i. record { id = id; level = 0; lo = lo; hi = end i; block = bytes i })

pub old_is : (e : Edits) (old : CellSeen) (id : ℕ) (lo hi : Key) (block xs ys : List ℕ) (c : CellSeen) → old.level ≡ 0 → id ≡ old.id → lo ≡ old.lo → hi ≡ old.hi → block ≡ old.block
    → length block ≡ 4096 → length xs ≡ 4096 → (xs ≡ block) ⊎ SetsAll (byte_set e) (rank lo) → AreSet (byte_set e) (rank lo) xs ys
    → c ≡ record { id = id; level = 0; lo = lo; hi = hi; block = refilled xs ys } → IsOverwritten e old c
old_is e old id lo hi block xs ys c level number low high same whole n begun set is =
    let long = set.long in
    let bytes : c.block ≡ ys = ap (λ (x : CellSeen). x.block) is ∙ refilled_is xs ys long in
    let from_old : AreSet (byte_set e) (rank lo) block ys = elim begun [
      | inl copy ↦ subst (λ (b : List ℕ). AreSet (byte_set e) (rank lo) b ys) copy set
      | inr all ↦ set_over (byte_set e) (rank lo) xs block ys n whole all set
    ] in
    record {
      number = ap (λ (x : CellSeen). x.id) is ∙ number;
      level = ap (λ (x : CellSeen). x.level) is;
      lo = ap (λ (x : CellSeen). x.lo) is ∙ low;
      hi = ap (λ (x : CellSeen). x.hi) is ∙ high;
      whole = ap length bytes ∙ (long ∙ n);
      bytes = subst (λ (b : List ℕ). AreSet (byte_set e) (rank old.lo) old.block b) (sym bytes)
          (subst (λ (b : List ℕ). AreSet (byte_set e) (rank old.lo) b ys) same (subst (λ (k : Key). AreSet (byte_set e) (rank k) block ys) low from_old));
    }

pub set_at : (e : Edits) (lo : ℕ) (xs ys zs : List ℕ) → xs ≡ ys → AreSet (byte_set e) lo xs zs → AreSet (byte_set e) lo ys zs
set_at e lo xs ys zs same s = subst (λ (b : List ℕ). AreSet (byte_set e) lo b zs) same s
