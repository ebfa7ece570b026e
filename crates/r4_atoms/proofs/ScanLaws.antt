-- The smallest atom of the transactions that pass a test, one transaction after the other.
use Rattle.std.proofs.Common.{◌≡◌, ◌≢◌, ◌⊎◌, ℕ, ◌+◌, ◌-◌, ◌<◌, ◌≤◌, Bool, true, false, get_or, Option, Some, None, MatchOption, IfSome, IsSome, refl, sym, ap, ◌∙◌, inl, inr, arith}
use Rattle.std.proofs.lemmas.Bool.{cases_eq, cases_lt, ne_eqb}
use Rattle.r4_base.specs.declared.things.AtomNo.{AtomNo}
use Rattle.r4_atoms.specs.Atoms.{atom_of, AtomsSeen, is_pending_as, IsBegun, IsOpenIn, IsSmallestAtom, NonePasses, no_txn, open_count, txn_of, TxnSeen}
use Rattle.r4_atoms.proofs.KeptLaws.{count_closed, count_is}

-- the smallest atom of the transactions from here on
abbrev pub Smallest : AtomsSeen → (ℕ → Bool) → ℕ → Option AtomNo → Type 0
Smallest s test at None = (t : ℕ) → IsBegun s t → at < t → test t ≡ false
Smallest s test at (Some b) = ((t : ℕ) × IsBegun s t × (test t ≡ true) × (atom_of s t ≡ b.0)) × ((t : ℕ) → IsBegun s t → at < t → test t ≡ true → b.0 ≤ atom_of s t)

-- none passes the test down to another place
pub smallest_stays : (s : AtomsSeen) (test : ℕ → Bool) (at next : ℕ) (best : Option AtomNo) → ((t : ℕ) → IsBegun s t → next < t → t ≤ at → test t ≡ false) → Smallest s test at best → Smallest s test next best
smallest_stays s test at next None miss none = λ t begun above. elim (cases_lt at t) [
  | inl here ↦ none t begun here
  | inr there ↦ miss t begun above there
]
smallest_stays s test at next (Some b) miss has = (
  has.0,
  λ t begun above hit. elim (cases_lt at t) [
    | inl here ↦ has.1 t begun here hit
    | inr there ↦ let e = miss t begun above there in absurd (cc)
  ],
)

-- this one passes the test, and none between it and the other place
pub smallest_steps : (s : AtomsSeen) (test : ℕ → Bool) (at next : ℕ) (best result : Option AtomNo) (atom : AtomNo) → IsBegun s at → test at ≡ true → atom.0 ≡ atom_of s at → ((t : ℕ) → IsBegun s t → next < t → t < at → test t ≡ false)
    → MatchOption best (result ≡ Some atom) (λ b. IfSome result (λ a. (a.0 ≤ b.0) × (a.0 ≤ atom.0) × ((a ≡ b) ⊎ (a ≡ atom)))) → IsSome result → Smallest s test at best → Smallest s test next result
smallest_steps s test at next None None atom begun hit is miss least some was = absurd (cc)
smallest_steps s test at next None (Some a) atom begun hit is miss least some was =
    let same : a ≡ atom = cc in
    let number = ap (λ (x : AtomNo). x.0) same in (
      (at, begun, hit, sym is ∙ sym number),
      λ t of_t above passes. elim (cases_lt at t) [
        | inl later ↦ let none = was t of_t later in absurd (cc)
        | inr below ↦ elim (cases_eq t at) [
          | inl here ↦ let e = ap (atom_of s) here in omega arith
          | inr there ↦ let none = miss t of_t above (omega arith) in absurd (cc)
        ]
      ],
    )
smallest_steps s test at next (Some b) None atom begun hit is miss least some was = absurd (cc)
smallest_steps s test at next (Some b) (Some a) atom begun hit is miss least some was = (
  elim least.2 [
    | inl old ↦ (was.0.0, was.0.1, was.0.2, was.0.3 ∙ ap (λ (x : AtomNo). x.0) (sym old))
    | inr new ↦ (at, begun, hit, sym is ∙ ap (λ (x : AtomNo). x.0) (sym new))
  ],
  λ t of_t above passes. elim (cases_lt at t) [
    | inl later ↦ let h = was.1 t of_t later passes in omega (arith, least.0)
    | inr below ↦ elim (cases_eq t at) [
      | inl here ↦ let e = ap (atom_of s) here in omega (arith, least.1, is)
      | inr there ↦ let none = miss t of_t above (omega arith) in absurd (cc)
    ]
  ],
)

-- down to a place up to which none passes the test
pub smallest_of_all : (s : AtomsSeen) (test : ℕ → Bool) (at : ℕ) (best : Option AtomNo) → ((t : ℕ) → IsBegun s t → t ≤ at → test t ≡ false) → Smallest s test at best → MatchOption best (NonePasses s test) (λ a. IsSmallestAtom s test a.0)
smallest_of_all s test at None first none = λ t begun. elim (cases_lt at t) [
  | inl here ↦ none t begun here
  | inr there ↦ first t begun there
]
smallest_of_all s test at (Some b) first has = record {
  passes = has.0;
  smallest = λ t begun hit. elim (cases_lt at t) [
    | inl here ↦ has.1 t begun here hit
    | inr there ↦ let e = first t begun there in absurd (cc)
  ];
}

-- a transaction of another script is not looked for
pub not_pending : (s : AtomsSeen) (script : ℕ) (closed : Bool) (t : ℕ) → (txn_of s t).script ≢ script → is_pending_as s script closed t ≡ false
not_pending s script closed t other = rw (ne_eqb (txn_of s t).script script other) refl

-- an atom of which no transaction is open counts none
pub none_counted : (s : AtomsSeen) (a : ℕ) → ((t : ℕ) → IsOpenIn s a t → ⊥) → open_count s a ≡ 0
none_counted s a none = sym (count_is a s.txns) ∙ count_closed a s.txns (λ i within mine opened.
    let minus : i + 1 - 1 ≡ i = omega arith in
    let same : txn_of s (i + 1) ≡ get_or s.txns i no_txn = ap (λ (x : ℕ). get_or s.txns x no_txn) minus in
    let begun : IsBegun s (i + 1) = record { some = omega arith; within = omega arith } in
    none (i + 1) record { begun = begun; atom = ap (λ (x : TxnSeen). x.atom) same ∙ mine; opened = ap (λ (x : TxnSeen). x.is_open) same ∙ opened })
