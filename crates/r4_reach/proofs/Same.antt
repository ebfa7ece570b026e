-- What is reached rests on the cells that are reached.
use Rattle.std.proofs.Common.{◌≡◌, ◌≢◌, ◌⊎◌, inl, inr, ℕ, zero, suc, ◌-◌, ◌<◌, ◌≤◌, Bool, true, false, List, []}
use Rattle.std.proofs.Common.{◌∷◌, refl, ap, sym, subst, ◌∙◌, arith}
use Rattle.std.specs.Prelude.{Contains, Option, None, Some, ◌==◌}
use Rattle.std.proofs.lemmas.Option.{none-some}
use Rattle.r4_base.specs.Tree.{InNode, IsData, Name, Node, Root, Store}
use Rattle.r4_base.specs.Value.{Value}
use Rattle.r4_base.proofs.Trees.{one_cell}
use Rattle.r4_path.specs.r4_patch.Part.{IsPart}
use Rattle.r4_path.proofs.r4_patch.PartCells.{in_name, in_namer, in_twig, level_above, named_once, one_above, one_piece}
use Rattle.r4_path.proofs.r4_patch.PartCells.{parent, root_high, root_unnamed}
use Rattle.r4_reach.specs.Demand.{Covers, Demand, IsPlain, ask, ask_of, heard, heard_one}
use Rattle.r4_reach.specs.Reach.{HasReached, HasRoot, HasTouched, IsAsked, IsAt, IsBeside, IsReadAt}
use Rattle.r4_reach.specs.Reach.{IsReached, IsRootAsking, IsWritten, IsWrittenAt, Touches, is_body}
use Rattle.r4_reach.proofs.Heard.{asker, choose, here, is_heard, later, not_empty, option_cases, split}

module _ {A : Type 0} (d : Demand A) where
  pub at_of : (c : Node Value) (k : ℕ) → Covers c k → IsAt c k
  at_of c k (inl (one, at)) = inl (omega (arith, one), at)
  at_of c k (inr s) = inr s

  -- a cell at a touched key is reached
  pub by_key : (t : Store Value) (i : ℕ) (c : Node Value) (k : ℕ) → t i ≡ Some c → Touches d k → IsAt c k
      → IsReached d t i
  by_key t i c k tc (inl r) at = inr (c, tc, (k, inl (r, at)))
  by_key t i c k tc (inr w) (inl low) = inl (c, tc, inl (k, w, inl low))
  by_key t i c k tc (inr w) (inr s) = by_kind (is_body k) refl
    where
      by_kind : (b : Bool) → is_body k ≡ b → IsReached d t i
      by_kind true e = inr (c, tc, (k, inr (w, e, s)))
      by_kind false e = inl (c, tc, inl (k, w, inr (s, e)))

  -- and what is reached by its keys is at one
  pub read_key : (c : Node Value) → IsReadAt d c → (k : ℕ) × Touches d k × IsAt c k
  read_key c (k, inl (r, at)) = (k, inl r, at)
  read_key c (k, inr (w, b, s)) = (k, inr w, inr s)

  pub written_key : (c : Node Value) → IsWrittenAt d c → (k : ℕ) × Touches d k × IsAt c k
  written_key c (k, w, inl low) = (k, inr w, inl low)
  written_key c (k, w, inr (s, e)) = (k, inr w, inr s)

  pub changed_key : (c : Node Value) → ((k : ℕ) × (d.changes k ≡ true) × Covers c k)
      → (k : ℕ) × Touches d k × IsAt c k
  changed_key c (k, w, at) = (k, inr w, at_of c k at)

module _ {A : Type 0} (d : Demand A) (plain : IsPlain d) (t u : Store Value) (root other : Root) (it : IsPart t root)
    (iu : IsPart u other) (has : HasTouched d t) (same : HasReached d t u) (roots : HasRoot d t root other) where
  both : (i j : ℕ) (c e : Node Value) → t i ≡ Some c → u j ≡ Some e → u i ≡ Some c → i ≡ j → t j ≡ Some e
  both i j c e tc ue uc ij =
      let uj : u j ≡ Some c = subst (λ x. u x ≡ Some c) ij uc in
      subst (λ x. t j ≡ Some x) (one_cell u j c e uj ue) (subst (λ x. t x ≡ Some c) ij tc)

  -- the second one's leaf or twig with a touched key is the first one's
  piece_in : (i : ℕ) (c : Node Value) (k : ℕ) → u i ≡ Some c → Touches d k → Covers c k → InNode c k → t i ≡ Some c
  piece_in i c k uc touch cov at =
      let ic = iu.nodes i c uc in
      let from = ic.from_least in
      let to = ic.to_top in
      let (j, e, tj, cov2) = has.piece k touch (omega (arith, at, from)) (omega (arith, at, to)) in
      let uj : u j ≡ Some e = same j e (by_key d t j e k tj touch (at_of d e k cov2)) tj in
      both j i e c tj uc uj (one_piece u other iu k j i e c uj uc cov2 cov)

  covered_in : (i : ℕ) (c : Node Value) (k : ℕ) → u i ≡ Some c → Covers c k → InNode c k
  covered_in i c k uc (inl (one, at)) = at
  covered_in i c k uc (inr (s, cs, at)) = in_twig c s k (iu.nodes i c uc) cs at

  block_in : (i : ℕ) (c : Node Value) (k : ℕ) → u i ≡ Some c → c.level ≡ 0 → InNode c k → Touches d k → t i ≡ Some c
  block_in i c k uc low at touch = elim (parent u other iu i c uc) [
    | inl h ↦
        let high = root_high u other iu i c uc h in
        let height = iu.height in
        absurd (omega (arith, high, height, low))
    | inr h ↦
        let (j, e, n, uj, en, is, f) = h in
        let level = f.level in
        let flat : IsData n = sym level ∙ low in
        let ie = iu.nodes j e uj in
        let at_n = in_name c n k f at in
        let (s, es, from, to) = ie.data_in_span n en flat in
        let at_e : InNode e k = in_namer e n k ie en at_n in
        let tj = piece_in j e k uj touch (inr (s, es, (omega (arith, from, at_n), omega (arith, to, at_n)))) at_e in
        let (b, tb) = has.block j e n k tj en flat at_n touch in
        let g = it.named j e b n tj en tb in
        let lv = g.level in
        let lo = g.lo in
        let hi = g.hi in
        let ub : u n.id ≡ Some b = same n.id b
        (by_key d t n.id b k tb touch (inl
        (omega (arith, lv, flat), (omega (arith, lo, at_n), omega (arith, hi, at_n))))) tb in
        both n.id i b c tb uc ub is
  ]

  -- so is each cell with a touched key
  at_in : (i : ℕ) (c : Node Value) (k : ℕ) → u i ≡ Some c → Touches d k → IsAt c k → t i ≡ Some c
  at_in i c k uc touch (inr s) = piece_in i c k uc touch (inr s) (covered_in i c k uc (inr s))
  at_in i c k uc touch (inl (low, at)) = elim (split_level c.level low) [
    | inl none ↦ block_in i c k uc none at touch
    | inr one ↦ piece_in i c k uc touch (inl (one, at)) at
  ]
    where
      split_level : (l : ℕ) → l < 2 → (l ≡ 0) ⊎ (l ≡ 1)
      split_level zero h = inl refl
      split_level (suc l) h = inr (omega (arith, h))

  key_in : (i : ℕ) (c : Node Value) → u i ≡ Some c → ((k : ℕ) × Touches d k × IsAt c k) → t i ≡ Some c
  key_in i c uc (k, touch, at) = at_in i c k uc touch at

  -- ---- what cells ask for, level by level

  abbrev Forth : ℕ → Type 0
  Forth l = (i : ℕ) (c : Node Value) (a : A) → t i ≡ Some c → c.level ≡ l → ask d t l c ≡ Some a
      → (u i ≡ Some c) × (ask d u l c ≡ Some a)

  abbrev Back : ℕ → Type 0
  Back l = (i : ℕ) (c : Node Value) (a : A) → u i ≡ Some c → c.level ≡ l → ask d u l c ≡ Some a
      → (t i ≡ Some c) × (ask d t l c ≡ Some a)

  -- what one node asks for, in both
  one_ask : (l : ℕ) → Forth l → Back l → (i : ℕ) (x y : Option (Node Value)) → t i ≡ x → u i ≡ y
      → ((b : Node Value) → x ≡ Some b → b.level ≡ l) → ((b : Node Value) → y ≡ Some b → b.level ≡ l)
      → ask_of (ask d t l) x ≡ ask_of (ask d u l) y
  one_ask l forth back i None None tx uy lx ly = refl
  one_ask l forth back i None (Some e) tx uy lx ly = elim (option_cases (ask d u l e)) [
    | inl h ↦ sym h
    | inr h ↦ let (a, g) = h in absurd (none-some e (sym tx ∙ (back i e a uy (ly e refl) g).0))
  ]
  one_ask l forth back i (Some b) None tx uy lx ly = elim (option_cases (ask d t l b)) [
    | inl h ↦ h
    | inr h ↦ let (a, g) = h in absurd (none-some b (sym uy ∙ (forth i b a tx (lx b refl) g).0))
  ]
  one_ask l forth back i (Some b) (Some e) tx uy lx ly = elim (option_cases (ask d t l b)) [
    | inr h ↦
        let (a, g) = h in
        let (ub, f) = forth i b a tx (lx b refl) g in
        g ∙ sym (ap (ask d u l) (one_cell u i e b uy ub) ∙ f)
    | inl h ↦ elim (option_cases (ask d u l e)) [
      | inl h2 ↦ h ∙ sym h2
      | inr h2 ↦
          let (a, g) = h2 in
          let (te, f) = back i e a uy (ly e refl) g in
          absurd (none-some a (sym h ∙ ap (ask d t l) (one_cell t i b e tx te) ∙ f))
    ]
  ]

  -- what a node below a cell has as its level
  level_of_name : (v : Store Value) (r : Root) → IsPart v r → (l i : ℕ) (c : Node Value) (n : Name) → v i ≡ Some c
      → c.level ≡ suc l → Contains c.names n → n.level ≢ 0 → (b : Node Value) → v n.id ≡ Some b → b.level ≡ l
  level_of_name v r iv l i c n vc cl cn up b vb =
      let f = (iv.named i c b n vc cn vb).level in
      elim ((iv.nodes i c vc).below n cn) [
        | inl h ↦ omega (arith, f, h, cl)
        | inr h ↦ absurd (up h.1)
      ]

  -- what a cell that is in both hears
  heard_same : (l : ℕ) → Forth l → Back l → (i : ℕ) (c : Node Value) → t i ≡ Some c → u i ≡ Some c → c.level ≡ suc l
      → heard (ask d t l) t c.names ≡ heard (ask d u l) u c.names
  heard_same l forth back i c tc uc cl = by_names c.names (λ n h. h)
    where
      by_names : (ns : List Name) → ((n : Name) → Contains ns n → Contains c.names n)
          → heard (ask d t l) t ns ≡ heard (ask d u l) u ns
      by_names [] sub = refl
      by_names (n ∷ ns) sub =
          let rest = by_names ns (λ m h. sub m (later n m ns h)) in
          choose (n.level == 0) (heard (ask d t l) t ns) (heard (ask d u l) u ns)
          (heard_one n (ask_of (ask d t l) (t n.id)) (heard (ask d t l) t ns))
          (heard_one n (ask_of (ask d u l) (u n.id)) (heard (ask d u l) u ns)) rest
          (λ up.
          let is_up : n.level ≢ 0 = λ z. absurd (grind (arith, up, z)) in
          let cn = sub n (here n ns) in
          let one = one_ask l forth back n.id (t n.id) (u n.id) refl refl
          (level_of_name t root it l i c n tc cl cn is_up) (level_of_name u other iu l i c n uc cl cn is_up) in
          ap (λ x. heard_one n x (heard (ask d t l) t ns)) one ∙ ap (heard_one n (ask_of (ask d u l) (u n.id))) rest)

  -- a cell of the second that is asked for something is the first one's
  asked_in : (l : ℕ) → Back l → (i : ℕ) (c : Node Value) → u i ≡ Some c → c.level ≡ suc l
      → heard (ask d u l) u c.names ≢ [] → t i ≡ Some c
  asked_in l back i c uc cl some =
      let x = asker (ask d u l) u c.names some in
      let n = x.name in
      let b = x.node in
      let bl = level_of_name u other iu l i c n uc cl x.named x.pointed b x.stands in
      let (tb, f) = back n.id b x.what x.stands bl x.asks in
      elim (parent t root it n.id b tb) [
        | inl h ↦
            let high = root_high t root it n.id b tb h in
            let to_root : ask d t root.height b
            ≡ Some x.what = subst (λ k. ask d t k b ≡ Some x.what) (sym bl ∙ high) f in
            let change = roots x.what (b, subst (λ k. t k ≡ Some b) h tb, to_root) in
            absurd (root_unnamed u other iu i c n uc x.named (h ∙ ap (λ r. r.id) (sym change)))
        | inr h ↦
            let (j, e, m, tj, em, mi, g) = h in
            let ml = g.level in
            let pos : m.level ≢ 0 = λ z. not_low l c n (sym (iu.named i c b n uc x.named x.stands).level
            ∙ bl) cl (omega (arith, z, ml, bl)) uc x.named x.pointed in
            let el = one_above e m (it.nodes j e tj) em (omega (arith, pos_of m.level pos)) in
            let hears : IsAsked d t e = subst (λ k. heard (ask d t k) t e.names ≢ []) (omega (arith, el, ml, bl))
            (is_heard (ask d t l) t e.names m b x.what em pos (subst (λ k. t k ≡ Some b) (sym mi) tb) f) in
            let ue : u j ≡ Some e = same j e (inl (e, tj, inr (inr (inr hears)))) tj in
            let (ij, nm) = named_once u other iu j i n.id e c b m n ue uc em x.named x.stands mi refl in
            both j i e c tj uc ue ij
      ]
    where
      pos_of : (k : ℕ) → k ≢ 0 → 1 ≤ k
      pos_of zero h = absurd (h refl)
      pos_of (suc k) h = omega arith

      not_low : (l : ℕ) (c : Node Value) (n : Name) → n.level ≡ l → c.level ≡ suc l → l ≡ 0 → u i ≡ Some c
          → Contains c.names n → n.level ≢ 0 → ⊥
      not_low l c n bl cl z uc cn up = up (bl ∙ z)

  heard_cases : (f : Node Value → Option A) (v : Store Value) (c : Node Value)
      → (heard f v c.names ≡ []) ⊎ (heard f v c.names ≢ [])
  heard_cases f v c = elim (split (heard f v c.names)) [
    | inl h ↦ inl h
    | inr h ↦ let (x, xs, e) = h in inr (λ z. not_empty x xs (sym e ∙ z))
  ]

  levels : (l : ℕ) → Forth l × Back l
  levels zero = (λ i c a tc cl e. absurd (none-some a e), λ i c a uc cl e. absurd (none-some a e))
  levels (suc l) =
      let (forth, back) = levels l in (
        λ i c a tc cl e.
            let reached : IsReached d t i = elim (heard_cases (ask d t l) t c) [
              | inl h ↦ let (k, touch, at) = changed_key d c (plain.own c a (subst (λ xs. d.asks c xs
                  ≡ Some a) h e)) in by_key d t i c k tc touch at
              | inr h ↦ inl (
                c,
                tc,
                inr (inr (inr
                    (subst (λ k. heard (ask d t k) t c.names ≢ []) (omega (arith, cl)) h))),
              )
            ] in
            let uc = same i c reached tc in
            (uc, ap (d.asks c) (sym (heard_same l forth back i c tc uc cl)) ∙ e),
        λ i c a uc cl e.
            let tc : t i ≡ Some c = elim (heard_cases (ask d u l) u c) [
              | inl h ↦ key_in i c uc (changed_key d c (plain.own c a (subst (λ xs. d.asks c xs ≡ Some a) h e)))
              | inr h ↦ asked_in l back i c uc cl h
            ] in
            (tc, ap (d.asks c) (heard_same l forth back i c tc uc cl) ∙ e),
      )

  -- ---- what is reached

  level_up : (v : Store Value) (r : Root) → IsPart v r → (i : ℕ) (c : Node Value) → v i ≡ Some c → IsAsked d v c
      → c.level ≡ suc (c.level - 1)
  level_up v r iv i c vc some =
      let x = asker (ask d v (c.level - 1)) v c.names some in
      let up = (level_above c x.name (iv.nodes i c vc) x.named).1 in
      omega (arith, up)

  -- a cell of both is asked in both
  asked_same : (i : ℕ) (c : Node Value) → t i ≡ Some c → u i ≡ Some c → c.level ≡ suc (c.level - 1)
      → heard (ask d t (c.level - 1)) t c.names ≡ heard (ask d u (c.level - 1)) u c.names
  asked_same i c tc uc cl = let (forth, back) = levels (c.level - 1) in
      heard_same (c.level - 1) forth back i c tc uc cl

  pub written_to : (i : ℕ) → IsWritten d t i → IsWritten d u i
  written_to i (c, tc, why) =
      let uc = same i c (inl (c, tc, why)) tc in (
        c,
        uc,
        elim why [
          | inl h ↦ inl h
          | inr h ↦ inr (elim h [
            | inl turns ↦ inl turns
            | inr g ↦ inr (elim g [
              | inl beside ↦ inl (beside_to beside)
              | inr asked ↦ inr (λ z. asked (asked_same i c tc uc (level_up t root it i c tc asked) ∙ z))
            ])
          ])
        ],
      )
    where
      beside_to : IsBeside d t i → IsBeside d u i
      beside_to (j, e, n, tj, turns, b, is) = (j, e, n, same j e (inl (e, tj, inr (inl turns))) tj, turns, b, is)

  -- a twig of the second that turns is the first one's
  turned_in : (j : ℕ) (e : Node Value) → u j ≡ Some e → d.turns e ≡ true → t j ≡ Some e
  turned_in j e uj turns = key_in j e uj (changed_key d e (plain.turned e turns))

  why_from : (i : ℕ) (c : Node Value) → u i ≡ Some c
      → (IsWrittenAt d c ⊎ ((d.turns c ≡ true) ⊎ (IsBeside d u i ⊎ IsAsked d u c))) → IsWritten d t i
  why_from i c uc (inl h) = (c, key_in i c uc (written_key d c h), inl h)
  why_from i c uc (inr (inl turns)) = (c, turned_in i c uc turns, inr (inl turns))
  why_from i c uc (inr (inr (inl (j, e, n, uj, turns, b, is)))) =
      let tj = turned_in j e uj turns in
      let (x, tx) = has.beside j e n tj turns b in
      (x, subst (λ k. t k ≡ Some x) is tx, inr (inr (inl (j, e, n, tj, turns, b, is))))
  why_from i c uc (inr (inr (inr asked))) =
      let cl = level_up u other iu i c uc asked in
      let (forth, back) = levels (c.level - 1) in
      let tc = asked_in (c.level - 1) back i c uc cl asked in
      (c, tc, inr (inr (inr (λ z. asked (sym (asked_same i c tc uc cl) ∙ z)))))

  pub written_from : (i : ℕ) → IsWritten d u i → IsWritten d t i
  written_from i (c, uc, why) = why_from i c uc why

  pub reached_to : (i : ℕ) → IsReached d t i → IsReached d u i
  reached_to i (inl w) = inl (written_to i w)
  reached_to i (inr (c, tc, r)) = inr (c, same i c (inr (c, tc, r)) tc, r)

  pub reached_from : (i : ℕ) → IsReached d u i → IsReached d t i
  reached_from i (inl w) = inl (written_from i w)
  reached_from i (inr (c, uc, r)) = inr (c, key_in i c uc (read_key d c r), r)

  pub root_to : (a : A) → IsRootAsking d t root a → IsRootAsking d u other a
  root_to a (c, tc, e) =
      let is = roots a (c, tc, e) in
      let level = root_high t root it root.id c tc refl in
      let (forth, back) = levels root.height in
      let (uc, f) = forth root.id c a tc level e in
      (c, subst (λ r. u r.id ≡ Some c) (sym is) uc, subst (λ r. ask d u r.height c ≡ Some a) (sym is) f)

  pub root_from : (a : A) → IsRootAsking d u other a → IsRootAsking d t root a
  root_from a (c, uc, e) =
      let level = root_high u other iu other.id c uc refl in
      let (forth, back) = levels other.height in
      let (tc, f) = back other.id c a uc level e in
      elim (parent t root it other.id c tc) [
        | inl h ↦
            let high = root_high t root it other.id c tc h in
            (c, subst (λ k. t k ≡ Some c) h tc, subst (λ k. ask d t k c ≡ Some a) (sym level ∙ high) f)
        | inr h ↦
            let (j, x, n, tj, xn, ni, g) = h in
            let up = g.level in
            let pos : n.level ≢ 0 = λ z. none_low iu.height (omega (arith, z, up, level)) in
            let xl = one_above x n (it.nodes j x tj) xn (omega (arith, up, level, iu.height)) in
            let hears : IsAsked d t x = subst (λ k. heard (ask d t k) t x.names ≢ []) (omega (arith, xl, up, level))
            (is_heard (ask d t other.height) t x.names n c a xn pos (subst (λ k. t k ≡ Some c) (sym ni) tc) f) in
            let uj : u j ≡ Some x = same j x (inl (x, tj, inr (inr (inr hears)))) tj in
            absurd (root_unnamed u other iu j x n uj xn ni)
      ]
    where
      none_low : 2 ≤ other.height → other.height ≡ 0 → ⊥
      none_low h z = absurd (omega (arith, h, z))
