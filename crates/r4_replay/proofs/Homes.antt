-- Where the content of each block stands, one pair after the other.
use Rattle.std.proofs.Common.{◌≡◌, inl, inr, ℕ, ◌+◌, ◌<◌, ◌==◌, Bool, true, false, cond, List, [], ◌∷◌, ◌++◌, length, take, get_or, Option, Some, refl, sym, ap, subst, ◌∙◌, arith}
use Rattle.std.specs.Prelude.{All, Contains, map, reverse}
use Rattle.std.proofs.lemmas.List.Elements.{All-append, All-head, All-map, All-nil, All-push, All-tail}
use Rattle.std.specs.Ordering.{nat_cmp}
use Rattle.std.specs.Option.{unwrap_or}
use Rattle.std.specs.BTreeMap.{BTreeMap, get, is_at, Updates}
use Rattle.std.proofs.lemmas.Bool.{cases_eq, cases_lt}
use Rattle.std.proofs.lemmas.Bool.Decides.{nat_tests}
use Rattle.std.proofs.lemmas.List.{reverse-append, take_more}
use Rattle.r4_base.specs.Chain.{PairInRange, Txn, chain_pairs, committed, home, home_from}
use Rattle.r4_base.specs.Chain.{HasLog}
use Rattle.r4_base.specs.Image.{block_at}
use Rattle.r4_base.proofs.Frame.{settled_at}
use Rattle.r4_base.proofs.Members.{member_here, member_later}
use Rattle.r4_outside.specs.Device.{State, TellsReads}
use Rattle.r4_replay.specs.declared.txn.Txn.{Txn as TxnHere}
use Rattle.r4_replay.specs.declared.log.Log.{Log}
use Rattle.r4_replay.specs.Chains.{InRangeAll}
use Rattle.r4_replay.specs.Txns.{chain_shown, txn_shown}
use Rattle.r4_replay.specs.Homes.{home_in, TellsHomes}
use Rattle.r4_replay.proofs.Finishing.{header_apart, length_chain}

pub home_both : (ps qs : List (ℕ × ℕ)) (b so_far : ℕ) → home_from (ps ++ qs) b so_far ≡ home_from qs b (home_from ps b so_far)
home_both [] qs b so_far = refl
home_both (p ∷ ps) qs b so_far = home_both ps qs b _

at_is : (k b : ℕ) → is_at (nat_cmp k) b ≡ (b == k)
at_is k b = elim (cases_eq b k) [
  | inl is ↦ grind (arith, nat_tests)
  | inr other ↦ elim (cases_lt k b) [ inl lt ↦ grind (arith, nat_tests) | inr ge ↦ grind (arith, nat_tests) ]
]

some_or : (t : Bool) (v b : ℕ) (o : Option ℕ) → unwrap_or (cond t (Some v) o) b ≡ cond t v (unwrap_or o b)
some_or true v b o = refl
some_or false v b o = refl

pub home_put : (now new : BTreeMap ℕ ℕ) (k v b : ℕ) → Updates nat_cmp now new k (Some v) → home_in new b ≡ home_from ((k, v) ∷ []) b (home_in now b)
home_put now new k v b u = ap (λ (o : Option ℕ). unwrap_or o b) (u.0 b) ∙ some_or (is_at (nat_cmp k) b) v b (get nat_cmp now b) ∙ ap (λ (t : Bool). cond t v (home_in now b)) (at_is k b)

pub homes_more : (start now new : BTreeMap ℕ ℕ) (ps : List (ℕ × ℕ)) (i : ℕ) → i < length ps → ((b : ℕ) → home_in now b ≡ home_from (take i ps) b (home_in start b))
    → Updates nat_cmp now new (get_or ps i (0, 0)).0 (Some (get_or ps i (0, 0)).1) → (b : ℕ) → home_in new b ≡ home_from (take (i + 1) ps) b (home_in start b)
homes_more start now new ps i lt so_far u b =
    let p : ℕ × ℕ = get_or ps i (0, 0) in
    home_put now new p.0 p.1 b u ∙ ap (λ (h : ℕ). home_from (p ∷ []) b h) (so_far b) ∙ sym (home_both (take i ps) (p ∷ []) b (home_in start b))
    ∙ ap (λ (l : List (ℕ × ℕ)). home_from l b (home_in start b)) (sym (take_more ps i (0, 0) lt))

-- the homes of one transaction more
pub home_later : (chain older : List Txn) (t : Txn) (old new : BTreeMap ℕ ℕ) (b : ℕ) → chain ≡ t ∷ older → home_in old b ≡ home (chain_pairs older) b → home_in new b ≡ home_from t.pairs b (home_in old b) → home_in new b ≡ home (chain_pairs chain) b
home_later chain older t old new b is so_far more = more ∙ ap (λ (h : ℕ). home_from t.pairs b h) so_far ∙ sym (home_both (chain_pairs older) t.pairs b b) ∙ ap (λ (l : List Txn). home (chain_pairs l) b) (sym is)

-- a block without a copy is its own home
pub home_other : (ps : List (ℕ × ℕ)) (b so_far : ℕ) → (Contains (map (λ p. p.0) ps) b → ⊥) → home_from ps b so_far ≡ so_far
home_other [] b so_far out = refl
home_other (p ∷ ps) b so_far out = elim (cases_eq b p.0) [
  | inl is ↦ absurd (out (member_here p.0 (map (λ p. p.0) ps) b is))
  | inr other ↦
      let test : (b == p.0) ≡ false = grind (arith, nat_tests, other) in
      home_other ps b _ (λ later. out (member_later p.0 (map (λ p. p.0) ps) b later)) ∙ ap (λ (t : Bool). cond t p.1 so_far) test
]

pub tells_homes : (old : State) (txns : List TxnHere) (log : Log) → TellsReads old → HasLog old.blocks old.seen (chain_shown txns) → log.count ≡ length txns → log.head ≡ committed old.seen
    → ((b : ℕ) → home_in log.homes b ≡ home (chain_pairs (chain_shown txns)) b) → TellsHomes old log
tells_homes old txns log tells has count head homes = record {
  chain = chain_shown txns;
  has = has;
  count = count ∙ sym (length_chain txns);
  homes = homes;
  settled = λ b lt. settled_at old.seen old.blocks (chain_shown txns) b has (omega (arith, lt, tells.blocks)) ∙ ap (λ (h : ℕ). block_at old.seen h) (sym (homes b));
  head = head;
  header = homes 19 ∙ home_other (chain_pairs (chain_shown txns)) 19 19 (header_apart old.blocks old.seen (chain_shown txns) has);
}

-- ---- what is in place of a block of the device is a block of the device

home_from_within : (n : ℕ) (ps : List (ℕ × ℕ)) (b so_far : ℕ) → All (PairInRange n) ps → so_far < n → home_from ps b so_far < n
home_from_within n [] b so_far all lt = lt
home_from_within n (p ∷ ps) b so_far all lt =
    let first = All-head (PairInRange n) p ps all in
    home_from_within n ps b _ (All-tail (PairInRange n) p ps all) (either (b == p.0) p.1 so_far first.1.1 lt)
  where
    either : (t : Bool) (x y : ℕ) → x < n → y < n → cond t x y < n
    either true x y lx ly = lx
    either false x y lx ly = ly

pairs_within : (n : ℕ) (chain : List Txn) → All (λ (t : Txn). All (PairInRange n) t.pairs) chain → All (PairInRange n) (chain_pairs chain)
pairs_within n [] all = All-nil (PairInRange n)
pairs_within n (t ∷ older) all =
    All-append (PairInRange n) (chain_pairs older) t.pairs (pairs_within n older (All-tail (λ (t : Txn). All (PairInRange n) t.pairs) t older all)) (All-head (λ (t : Txn). All (PairInRange n) t.pairs) t older all)

all_turned : (n : ℕ) (ts : List Txn) → All (λ (t : Txn). All (PairInRange n) t.pairs) ts → All (λ (t : Txn). All (PairInRange n) t.pairs) (reverse ts)
all_turned n [] all = all
all_turned n (t ∷ ts) all =
    let P : Txn → Type 0 = λ (t : Txn). All (PairInRange n) t.pairs in
    subst (All P) (sym (reverse-append (t ∷ []) ts))
    (All-append P (reverse ts) (t ∷ []) (all_turned n ts (All-tail P t ts all)) (All-push P [] t (All-nil P) (All-head P t ts all)))

pub homes_within : (n : ℕ) (txns : List TxnHere) (homes : BTreeMap ℕ ℕ) → InRangeAll n txns → ((b : ℕ) → home_in homes b ≡ home (chain_pairs (chain_shown txns)) b) → (b : ℕ) → b < n → home_in homes b < n
homes_within n txns homes all is b lt =
    let shown : All (λ (t : Txn). All (PairInRange n) t.pairs) (map txn_shown txns) = All-map (λ (t : Txn). All (PairInRange n) t.pairs) txn_shown txns all in
    let turned = all_turned n (map txn_shown txns) shown in
    subst (λ (h : ℕ). h < n) (sym (is b)) (home_from_within n (chain_pairs (chain_shown txns)) b b (pairs_within n (chain_shown txns) turned) lt)
