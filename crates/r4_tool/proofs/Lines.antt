-- The last line of an image among what was printed.
use Rattle.std.proofs.Common.{◌≡◌, ◌∙◌, ℕ, ◌+◌, ◌-◌, ◌<◌, ◌≤◌, List, ◌∷◌, ◌++◌, Bor, Option, length}
use Rattle.std.proofs.Common.{take, drop, codes, sym, ap, subst}
use Rattle.std.proofs.Common.{arith, true, false, ◌==◌, inl, inr, MatchOption}
use Rattle.std.proofs.Common.{Result, Ok, Err, None, MatchResult}
use Rattle.std.specs.Cmp.Lexicographic.{pointwise}
use Rattle.std.specs.Result.{result_ok}
use Rattle.std.proofs.lemmas.Option.{none-some}
use Rattle.std.proofs.Math.Nat.{eq-or-lt_of_le}
use Rattle.std.proofs.lemmas.Bool.Decides.{Decides-eqb, leb_tells}
use Rattle.std.proofs.lemmas.List.{take_rest}
use Rattle.std.proofs.lemmas.Slice.Eq.{strip_prefix_is}
use Rattle.r4_tool.specs.Complaints.{BeginsAt, IsLast, IsLastBlock, LacksFrom}

-- a slice of what was printed is without the beginning of a line of an image, by the clause of `strip_prefix`
abbrev pub IsStripped : (slice : List ℕ) (r : Option (Bor (List ℕ))) → Type 0
IsStripped slice r =
    let begin : List ℕ = codes "image: block " in
    MatchOption r (pointwise (λ x y. x == y) (take 13 slice) begin ≡ false)
    (λ x. (pointwise (λ x y. x == y) (take 13 slice) begin ≡ true) × (x.now ≡ drop 13 slice)
    × (length x.now + 13 ≡ length slice))

-- what a line says stands behind its beginning
pub strips : (printed : List ℕ) (at : ℕ) (r : Option (Bor (List ℕ)))
    → IsStripped (take (length printed - at) (drop at printed)) r
    → MatchOption r ((line : List ℕ) → BeginsAt printed at line → ⊥) (λ line. BeginsAt printed at line.now)
strips printed at r stripped =
    let Parts : List ℕ → Type 0 = λ t. MatchOption r ((line : List ℕ) → t ≡ codes "image: block " ++ line → ⊥)
    (λ line. t ≡ codes "image: block " ++ line.now) in
    subst Parts (take_rest printed at)
    (strip_prefix_is Decides-eqb (take (length printed - at) (drop at printed)) (codes "image: block ") r stripped)

-- none begins from a byte before on, where none begins at it
pub none_before : (printed : List ℕ) (at from : ℕ) → from ≡ at + 1 → LacksFrom printed from
    → ((line : List ℕ) → BeginsAt printed at line → ⊥) → LacksFrom printed at
none_before printed at from next behind none i line le begins =
    elim (eq-or-lt_of_le le) as (λ _. ⊥) [
      | inl same ↦ none line (subst (λ (j : ℕ). BeginsAt printed j line) (sym same) begins)
      | inr more ↦ behind i line (omega arith) begins
    ]

-- the block that the last one names
pub last_block : (printed line text block word : List ℕ) → IsLast printed line → text ≡ line
    → text ≡ block ++ (codes ": " ++ word) → IsLastBlock printed block
last_block printed line text block word last same parts =
    (word, subst (λ (l : List ℕ). IsLast printed l) (sym same ∙ parts) last)

-- ---- one last line

-- the last line of an image is one
pub one_last : (printed line other : List ℕ) → IsLast printed line → IsLast printed other → line ≡ other
one_last printed line other a b =
    let low : b.0 ≤ a.0 = within a.0 b.0 (λ above. a.2 b.0 other (omega (arith, above)) b.1) in
    let high : a.0 ≤ b.0 = within b.0 a.0 (λ above. b.2 a.0 line (omega (arith, above)) a.1) in
    let same : a.0 ≡ b.0 = omega (arith, low, high) in
    ap (λ (l : List ℕ). drop 13 l) (sym a.1 ∙ (ap (λ n. drop n printed) same ∙ b.1))
  where
    within : (m n : ℕ) → (m < n → ⊥) → n ≤ m
    within m n never = elim (leb_tells n m) as (λ _. n ≤ m) [ inl le ↦ le.1 | inr lt ↦ absurd (never lt.1) ]

-- ---- parts of values

-- what stands behind one byte of a list
pub behind_is : (byte : ℕ) (xs ys list : List ℕ) → list ≡ byte ∷ xs → list ≡ byte ∷ ys → xs ≡ ys
behind_is byte xs ys list e f = ap (λ (l : List ℕ). drop 1 l) (sym e ∙ f)

-- what holds where a result is an error
pub refused_as : {T E : Type 0} (r : Result T E) (P : T → Type 0) (N : Type 0) (Q : E → Type 0)
    → result_ok r ≡ None → MatchResult r P (λ e. N × Q e) → N
refused_as (Ok x) P N Q none h = absurd (none-some x (sym none))
refused_as (Err d) P N Q none h = h.0
