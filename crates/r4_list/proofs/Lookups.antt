-- The last cell of a path, and why a path ends early.
use Rattle.std.proofs.Common.{◌≡◌, inl, inr, ℕ, zero, suc, ◌+◌, ◌*◌, ◌^◌, ◌-◌, ◌<◌, ◌≤◌, List, [], ◌∷◌, ◌++◌, refl, sym, ap, subst, ◌∙◌, arith}
use Rattle.std.specs.Prelude.{Option, Some, None, Contains, All, Result, Ok, Err, IfErr, slice_index}
use Rattle.std.specs.Result.{IsErrAnd}
use Rattle.std.proofs.lemmas.List.Elements.{All-contains}
use Rattle.std.proofs.lemmas.Option.{same_Some}
use Rattle.r4_base.specs.Key.{IsKey, rank, least, top}
use Rattle.r4_base.specs.Name.{key_of_name}
use Rattle.r4_base.specs.Cell.{cell_of}
use Rattle.r4_base.specs.Tree.{Name, Span}
use Rattle.r4_base.specs.declared.key.Key.{Key}
use Rattle.r4_base.proofs.Choices.{nothing_in}
use Rattle.r4_outside.specs.Device.{State}
use Rattle.r4_cell.specs.Seen.{CellSeen}
use Rattle.r4_cell.specs.declared.change.Root.{Root}
use Rattle.r4_search.specs.Pool.{PoolState, Goes, IsFrom, IsKnown, IsNamedFrom, IsOf, KnowsNames, IsNamed, LeavesDevice}
use Rattle.r4_search.specs.Path.{Follows, Descends, EndsAt, IsPath, KnowsOn, Stops, last_of, root_name}
use Rattle.r4_search.specs.declared.pool.FetchFault.{FetchFault}
use Rattle.r4_search.specs.declared.pool.FetchFault.TheVariants.{Read, Damaged, Memory}
use Rattle.r4_search.proofs.Walks.{goes_both, goes_same, last_among, last_pushed, leaves_both}
use Rattle.r4_list.specs.Printing.{IsFetchCause, Fetched}

-- ---- the last cell

pub record Inside (c : CellSeen) (key : ℕ) : Type 0 where
  pub from : rank c.lo ≤ key
  pub inside : key < rank c.hi

inside_named : (root : Root) (key : ℕ) (before : Option CellSeen) (n : Name) (c : CellSeen) → least ≤ key → key < top → Follows root key before n → IsNamed n c → Inside c key
inside_named root key None n c low high f is =
    let lo = is.lo ∙ ap (λ (m : Name). m.lo) f in
    let hi = is.hi ∙ ap (λ (m : Name). m.hi) f in
    record { from = subst (λ (k : ℕ). k ≤ key) (sym lo) low; inside = subst (λ (k : ℕ). key < k) (sym hi) high }
inside_named root key (Some x) n c low high f is =
    record { from = subst (λ (k : ℕ). k ≤ key) (sym is.lo) f.within.0; inside = subst (λ (k : ℕ). key < k) (sym is.hi) f.within.1 }

inside_last : (root : Root) (key : ℕ) (before : Option CellSeen) (cells : List CellSeen) (c : CellSeen) → least ≤ key → key < top → Descends root key before cells → ((x : CellSeen) → before ≡ Some x → Inside x key) → last_of before cells ≡ Some c → Inside c key
inside_last root key before [] c low high d h e = h c e
inside_last root key before (x ∷ cells) c low high d h e =
    let (n, f, is) = d.0 in
    inside_last root key (Some x) cells c low high d.1 (λ y s. subst (λ (z : CellSeen). Inside z key) (same_Some x y s) (inside_named root key before n x low high f is)) e

module _ (root : Root) (key : ℕ) (old new : PoolState) (cells : List CellSeen) (rest : List CellSeen) (c : CellSeen) (is : cells ≡ rest ++ c ∷ []) (low : least ≤ key) (high : key < top) (p : IsPath root key cells) where
  pub last_is : last_of None cells ≡ Some c
  last_is = subst (λ (xs : List CellSeen). last_of None xs ≡ Some c) (sym is) (last_pushed None rest c)

  pub last_ends : EndsAt c key
  last_ends = subst (λ (x : CellSeen). EndsAt x key) (same_Some p.end c (sym p.is_last ∙ last_is)) p.ends

  pub last_inside : Inside c key
  last_inside = inside_last root key None cells c low high p.descends (λ x e. absurd cc) last_is

  pub last_of_pool : All (IsOf old) cells → IsOf old c
  last_of_pool all = All-contains (IsOf old) cells c all (last_among cells c last_is)

  pub last_knows : KnowsOn new cells → KnowsNames new c
  last_knows k = k c last_is

pub no_path : (root : Root) (key : ℕ) (cells : List CellSeen) → cells ≡ [] → IsPath root key cells → ⊥
no_path root key cells e p = none p.end (sym (ap (last_of None) e) ∙ p.is_last)
  where
    none : (c : CellSeen) → None ≡ Some c → ⊥
    none c h = cc

-- ---- why a path ends early

-- what can be asked for is named from the root
pub named_there : (root : Root) (p : PoolState) (n : Name) → p.root ≡ root_name root → IsKnown p n → IsNamedFrom (root_name root) (IsFrom p) n
named_there root p n is known = subst (λ (r : Name). IsNamedFrom r (IsFrom p) n) is known.named

pub fetch_cause : (root : Root) (key : ℕ) (old new : PoolState) (e : FetchFault) → old.root ≡ root_name root → Goes old new → Stops root key old e new → IsFetchCause root old e new
fetch_cause root key old new (Read at faults) is g s = s.refused.2
fetch_cause root key old new (Damaged at fault) is g s = record {
  now = old;
  came = goes_same old;
  later = new;
  goes = g;
  name = s.at;
  named = named_there root new s.at (g.root ∙ is) s.known;
  block = s.refused.0;
  has = s.refused.1;
}
fetch_cause root key old new Memory is g s = tt

-- an error that a `?` hands on
pub handed : {T : Type 0} (P : FetchFault → Type 0) (r : Result T FetchFault) (e : FetchFault) → IsErrAnd r (λ y. y ≡ e) → P e → IfErr r P
handed {T} P (Ok x) e h p = tt
handed {T} P (Err y) e h p = subst P (sym h) p

-- ---- keys of objects and entries are below the end of all keys

digits_below : (a b c d : ℕ) → b < 2 ^ 64 → c < 2 ^ 64 → d < 2 ^ 64 → a + 1 < 2 ^ 64 → a * 2 ^ 192 + (b * 2 ^ 128 + (c * 2 ^ 64 + d)) < 2 ^ 256 - 1
digits_below a b c d lb lc ld la = omega (arith, lb, lc, ld, la)

pub below_top : (k : Key) → IsKey k → slice_index k.el 0 + 1 < 2 ^ 64 → rank k < top
unfolding rank top
below_top k is low = digits_below (slice_index k.el 0) (slice_index k.el 1) (slice_index k.el 2) (slice_index k.el 3) (is.small 1) (is.small 2) (is.small 3) low

pub first_of_entry : (dir : ℕ) (name : List ℕ) → slice_index (key_of_name dir name).el 0 ≡ dir * 16
unfolding key_of_name
first_of_entry dir name = refl

-- ---- what is known later is known from the beginning

pub cause_before : (root : Root) (old mid new : PoolState) (e : FetchFault) → Goes old mid → IsFetchCause root mid e new → IsFetchCause root old e new
cause_before root old mid new (Read at faults) g h = let before = g.faults in omega (arith, before, h)
cause_before root old mid new (Damaged at fault) g h = record { now = h.now; came = goes_both old mid h.now g h.came; later = h.later; goes = h.goes; name = h.name; named = h.named; block = h.block; has = h.has }
cause_before root old mid new Memory g h = tt

pub causes_before : {T : Type 0} (root : Root) (old mid new : PoolState) (r : Result T FetchFault) → Goes old mid → IfErr r (λ e. IsFetchCause root mid e new) → IfErr r (λ e. IsFetchCause root old e new)
causes_before {T} root old mid new (Ok x) g h = tt
causes_before {T} root old mid new (Err e) g h = cause_before root old mid new e g h

pub fetched_before : {T : Type 0} (root : Root) (old mid new : PoolState) (r : Result T FetchFault) (a b c : State) → Goes old mid → LeavesDevice a b → Fetched root mid r new b c → Fetched root old r new a c
fetched_before {T} root old mid new r a b c g d f = record { goes = goes_both old mid new g f.goes; device = leaves_both a b c d f.device; cause = causes_before root old mid new r g f.cause }

-- an error that a `?` hands on, after what went before
pub handed_on : {T : Type 0} (root : Root) (old mid new : PoolState) (r : Result T FetchFault) (e : FetchFault) (a b c : State) → Goes old mid → LeavesDevice a b → Goes mid new → LeavesDevice b c → IsErrAnd r (λ y. y ≡ e) → IsFetchCause root mid e new → Fetched root old r new a c
handed_on {T} root old mid new r e a b c g d h i is cause = record {
  goes = goes_both old mid new g h;
  device = leaves_both a b c d i;
  cause = handed (λ y. IsFetchCause root old y new) r e is (cause_before root old mid new e g cause);
}

-- ---- where a way ends is a node

no_spans : (level lo hi : ℕ) (b : List ℕ) (s : Span) → Contains (cell_of level lo hi b).spans s → 1 ≤ level
unfolding cell_of
no_spans zero lo hi b s h = absurd (nothing_in s h)
no_spans (suc level) lo hi b s h = omega arith

pub ends_level : (c : CellSeen) (key : ℕ) → EndsAt c key → 1 ≤ c.level
ends_level c key (inl one) = omega (arith, one)
ends_level c key (inr h) = no_spans c.level (rank c.lo) (rank c.hi) c.block h.0 h.1

-- ---- keys

pub rank_small : (k : Key) → IsKey k → rank k < 2 ^ 256
unfolding rank
rank_small k is = digits_small (slice_index k.el 0) (slice_index k.el 1) (slice_index k.el 2) (slice_index k.el 3) (is.small 0) (is.small 1) (is.small 2) (is.small 3)
  where
    digits_small : (a b c d : ℕ) → a < 2 ^ 64 → b < 2 ^ 64 → c < 2 ^ 64 → d < 2 ^ 64 → a * 2 ^ 192 + (b * 2 ^ 128 + (c * 2 ^ 64 + d)) < 2 ^ 256
    digits_small a b c d la lb lc ld = omega (arith, la, lb, lc, ld)
