-- A directory of a lawful content has one path.
use Rattle.std.specs.Prelude.{◌≡◌, ◌⊎◌, ◌^◌, ◌<◌, ℕ, zero, suc, List, [], ◌∷◌, ◌++◌, true, length, All, Some}
use Rattle.std.proofs.Common.{arith, inl, inr, refl, sym, ap, subst, ◌∙◌}
use Rattle.std.proofs.lemmas.List.{length-append}
use Rattle.std.proofs.lemmas.List.Elements.{All-cons, All-head, All-nil, All-tail}
use Rattle.r4_base.specs.Key.{key_of_rank}
use Rattle.r4_base.specs.Name.{dir_of_key}
use Rattle.r4_base.specs.Value.{Content, Entry, at_key}
use Rattle.r4_base.specs.Volume.{HasObjects, HasStat, root_object}
use Rattle.r4_base.specs.declared.items.Target.{Target}
use Rattle.r4_content.specs.Fields.{HasBytes, HasNumbers}
use Rattle.r4_content.specs.Objects.{entry_rank, is_dir}
use Rattle.r4_content.specs.Walk.{attr_at}
use Rattle.r4_content.specs.Ways.{Place}
use Rattle.r4_content.proofs.Counting.{once}
use Rattle.r4_content.proofs.Found.{NotDirectory, There, down, found, found_from, go_attr, small_object, start}
use Rattle.r4_content.proofs.Found.{stat_there}
use Rattle.r4_content.proofs.Losing.{named_no_root, one_target}
use Rattle.r4_content.proofs.OneObject.{stat_was}
use Rattle.r4_content.proofs.Rewired.{named, names_itself}
use Rattle.r4_content.proofs.SameWay.{found_object, place_in, root_there, step_is, steps_on, target_is}
use Rattle.r4_content.proofs.Shapes.{entry_dir}

-- ---- a way in two parts

pub parted_from : (m : Content) (xs ys : List (List ℕ)) (q p : Place) → found_from m (xs ++ ys) q ≡ There p
    → (r : Place) × (found_from m xs q ≡ There r) × (found_from m ys r ≡ There p)
parted_from m [] ys q p e = (q, refl, e)
parted_from m (x ∷ xs) ys q p e =
    let st = step_is m x (xs ++ ys) q p e in
    let (r, one, two) = parted_from m xs ys (down q st.target st.attr) p st.rest in
    (r, steps_on m x xs q st.target st.attr st.dir st.entry st.stat ∙ one, two)

pub parted : (m : Content) (xs ys : List (List ℕ)) (p : Place) → found m (xs ++ ys) ≡ There p → (r : Place)
    × (found m xs ≡ There r) × (found_from m ys r ≡ There p)
parted m xs ys p e =
    let (a, stat, rest) = root_there p (λ a. found_from m (xs ++ ys) (start a)) (attr_at m root_object) e in
    let (r, one, two) = parted_from m xs ys (start a) p rest in
    (r, ap (go_attr NotDirectory (λ a. found_from m xs (start a))) stat ∙ one, two)

pub joined : (m : Content) (xs ys : List (List ℕ)) (q r : Place) → found_from m xs q ≡ There r
    → found_from m (xs ++ ys) q ≡ found_from m ys r
joined m [] ys q r e = ap (found_from m ys) (place_in q r e)
joined m (x ∷ xs) ys q r e =
    let st = step_is m x xs q r e in
    steps_on m x (xs ++ ys) q st.target st.attr st.dir st.entry st.stat
    ∙ joined m xs ys (down q st.target st.attr) r st.rest

pub joined_way : (m : Content) (xs ys : List (List ℕ)) (r : Place) → found m xs ≡ There r
    → found m (xs ++ ys) ≡ found_from m ys r
joined_way m xs ys r e =
    let (a, stat, rest) = root_there r (λ a. found_from m xs (start a)) (attr_at m root_object) e in
    ap (go_attr NotDirectory (λ a. found_from m (xs ++ ys) (start a))) stat ∙ joined m xs ys (start a) r rest

pub first_part : {X : Type 0} (P : X → Type 0) (xs ys : List X) → All P (xs ++ ys) → All P xs
first_part P [] ys h = All-nil P
first_part P (x ∷ xs) ys h = All-cons P x xs (All-head P x (xs ++ ys) h)
    (first_part P xs ys (All-tail P x (xs ++ ys) h))

pub second_part : {X : Type 0} (P : X → Type 0) (xs ys : List X) → All P (xs ++ ys) → All P ys
second_part P [] ys h = h
second_part P (x ∷ xs) ys h = second_part P xs ys (All-tail P x (xs ++ ys) h)

-- a path is empty, or has a last name
pub last_of : (xs : List (List ℕ)) → (xs ≡ []) ⊎ ((ys : List (List ℕ)) × (n : List ℕ) × (xs ≡ ys ++ n ∷ []))
last_of [] = inl refl
last_of (x ∷ xs) = elim (last_of xs) [
  | inl e ↦ inr ([], x, ap (λ (t : List (List ℕ)). x ∷ t) e)
  | inr (ys, n, e) ↦ inr (x ∷ ys, n, ap (λ (t : List (List ℕ)). x ∷ t) e)
]

-- ---- one path

module _ (m : Content) (objects : HasObjects m) (numbers : HasNumbers m) where
  -- the last step to a place that was found
  pub record LastStep (xs : List (List ℕ)) (n : List ℕ) (p : Place) : Type 0 where
    pub dir : Place
    pub way : found m xs ≡ There dir
    pub there : HasStat m dir.here.target dir.here.attr
    pub small : dir.here.target.oid.0 < 2 ^ 60
    pub is : is_dir dir.here ≡ true
    pub entry : at_key m (entry_rank dir.here.target n) ≡ Some (Entry n p.here.target)

  pub last_step : (xs : List (List ℕ)) (n : List ℕ) (p : Place) → found m (xs ++ n ∷ []) ≡ There p → LastStep xs n p
  last_step xs n p e =
      let (r, one, two) = parted m xs (n ∷ []) p e in
      let st = step_is m n [] r p two in
      let at = target_is n (at_key m (entry_rank r.here.target n)) st.target st.entry in
      let found_there = found_object m numbers.orderings xs r one in
      record {
        dir = r;
        way = one;
        there = stat_was m r.here found_there;
        small = (small_object r.here.target (stat_there m r.here.target r.here.attr found_there.stat).0).1;
        is = st.dir;
        entry = at ∙ ap (λ (x : Place). Some (Entry n x.here.target)) (place_in (down r st.target st.attr) p st.rest);
      }

  pub found_root : (p : Place) → found m [] ≡ There p → p.here.target ≡ root_object
  found_root p e =
      let (a, stat, rest) = root_there p (λ a. found_from m [] (start a)) (attr_at m root_object) e in
      sym (ap (λ (x : Place). x.here.target) (place_in (start a) p rest))

  pub found_stat : (xs : List (List ℕ)) (p : Place) → found m xs ≡ There p → HasStat m p.here.target p.here.attr
  found_stat xs p e = stat_was m p.here (found_object m numbers.orderings xs p e)

  no_root : (xs ys : List (List ℕ)) (n : List ℕ) (p r : Place) → found m [] ≡ There p → ys ≡ xs ++ n ∷ []
      → found m ys ≡ There r → p.here.target ≡ r.here.target → ⊥
  no_root xs ys n p r one is two same =
      let s = last_step xs n r (ap (found m) (sym is) ∙ two) in
      named_no_root m objects (entry_rank s.dir.here.target n) n r.here.target s.entry (sym same ∙ found_root p one)

  pub one_way : (k : ℕ) (xs ys : List (List ℕ)) (p r : Place) → length xs < k → HasBytes xs → HasBytes ys
      → found m xs ≡ There p → found m ys ≡ There r → p.here.target ≡ r.here.target → is_dir p.here ≡ true → xs ≡ ys
  one_way zero xs ys p r short xs_bytes ys_bytes one two same is = absurd (omega (arith, short))
  one_way (suc k) xs ys p r short xs_bytes ys_bytes one two same is = elim (last_of xs) [
    | inl e ↦ elim (last_of ys) [
      | inl f ↦ e ∙ sym f
      | inr (vs, n, f) ↦ absurd (no_root vs ys n p r (ap (found m) (sym e) ∙ one) f two same)
    ]
    | inr (us, n, e) ↦ elim (last_of ys) [
      | inl f ↦ absurd (no_root us xs n r p (ap (found m) (sym f) ∙ two) e one (sym same))
      | inr (vs, o, f) ↦ both us vs n o e f (λ u v. one_way k us vs u v)
    ]
  ]
    where
      both : (us vs : List (List ℕ)) (n o : List ℕ) → xs ≡ us ++ n ∷ [] → ys ≡ vs ++ o ∷ []
          → ((u v : Place) → length us < k → HasBytes us → HasBytes vs → found m us ≡ There u → found m vs ≡ There v
          → u.here.target ≡ v.here.target → is_dir u.here ≡ true → us ≡ vs) → xs ≡ ys
      both us vs n o e f again =
          let Fits : List ℕ → Type 0 = λ (s : List ℕ). All (λ x. x < 256) s in
          let s = last_step us n p (ap (found m) (sym e) ∙ one) in
          let t = last_step vs o r (ap (found m) (sym f) ∙ two) in
          let us_all = subst HasBytes e xs_bytes in
          let vs_all = subst HasBytes f ys_bytes in
          let n_bytes = All-head Fits n [] (second_part Fits us (n ∷ []) us_all) in
          let o_bytes = All-head Fits o [] (second_part Fits vs (o ∷ []) vs_all) in
          let at : at_key m (entry_rank t.dir.here.target o) ≡ Some (Entry o p.here.target) = t.entry
          ∙ ap (λ (x : Target). Some (Entry o x)) (sym same) in
          let no = named_no_root m objects (entry_rank s.dir.here.target n) n p.here.target s.entry in
          let few = objects.named_once p.here.target p.here.attr (found_stat xs p one) is no in
          let key = once (named p.here.target) m (entry_rank s.dir.here.target n) (entry_rank t.dir.here.target o)
          (Entry n p.here.target) (Entry o p.here.target) (omega (arith, few)) s.entry
          (names_itself p.here.target n) at (names_itself p.here.target o) in
          let in_s = (entry_dir s.dir.here.target n s.small n_bytes).0 in
          let in_t = (entry_dir t.dir.here.target o t.small o_bytes).0 in
          let dirs = one_target m objects s.dir.here.target t.dir.here.target s.dir.here.attr t.dir.here.attr s.there
          t.there (sym in_s ∙ ap (λ (x : ℕ). dir_of_key (key_of_rank x)) key ∙ in_t) in
          let longer = ap length e ∙ length-append us (n ∷ []) in
          let rest = again s.dir t.dir (omega (arith, longer, short)) (first_part Fits us (n ∷ []) us_all)
          (first_part Fits vs (o ∷ []) vs_all) s.way t.way dirs s.is in
          let names = same_name n o (sym s.entry ∙ ap (at_key m) key ∙ at) in
          e ∙ ap (λ (zs : List (List ℕ)). zs ++ n ∷ []) rest ∙ ap (λ (x : List ℕ). vs ++ x ∷ []) names ∙ sym f
        where
          same_name : (n o : List ℕ) → Some (Entry n p.here.target) ≡ Some (Entry o p.here.target) → n ≡ o
          same_name n o h = cc
