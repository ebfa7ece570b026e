-- Options that are taken one after the other.
use Rattle.std.proofs.Common.{◌≡◌, ◌∙◌, ℕ, Bool, true, false, cond, List, [], ◌∷◌, ◌++◌, append_assoc}
use Rattle.std.proofs.Common.{append-nil, Option, Some, None, IsSome, inl, inr, refl, ap, sym, subst}
use Rattle.std.specs.Prelude.{option_and_then, option_map}
use Rattle.std.proofs.lemmas.Bool.{cond-true, cond-false}
use Rattle.std.proofs.lemmas.List.Elements.{filter_map-append}
use Rattle.std.specs.List.{cons_option}
use Rattle.r4_words.specs.declared.options.Numbers.{Numbers}
use Rattle.r4_words.specs.declared.options.RunOption.{RunOption}
use Rattle.r4_words.specs.declared.options.RunOption.TheVariants.{Threads, Stop, Tear, Pick, Gen}
use Rattle.r4_words.specs.Options.{AreOf, Given, Takes, asks_for, given_in, is_same, number_for, number_in}
use Rattle.r4_words.specs.Options.{number_of, one_number, put_before, run_by, run_of, values_of}

-- So far these options were read of all words, and their numbers are these; the rest of the words is to be read.
pub record IsSoFar (words rest : List (List ℕ)) (numbers : Numbers) : Type 0 where
  pub read : List Given
  pub split : given_in words ≡ option_map (λ others. read ++ others) (given_in rest)
  pub numbers_are : AreOf read numbers

pub none_so_far : (words : List (List ℕ))
    → IsSoFar words words (record { threads = None; stop = None; tear = None; pick = None; seed = None })
none_so_far words = record { read = []; split = whole (given_in words); numbers_are = λ option. none option }
  where
    whole : (o : Option (List Given)) → o ≡ option_map (λ others. [] ++ others) o
    whole None = refl
    whole (Some gs) = refl

    none : (option : RunOption)
        → number_of option [] ≡ Some
        (number_in option (record { threads = None; stop = None; tear = None; pick = None; seed = None }))
    none Threads = refl
    none Stop = refl
    none Tear = refl
    none Pick = refl
    none Gen = refl

-- ---- one option without a number: the words ask for nothing

asks_none : (option : RunOption) (a b c d e : Option (Option ℕ)) → (option ≡ Threads → a ≡ None)
    → (option ≡ Stop → b ≡ None) → (option ≡ Tear → c ≡ None) → (option ≡ Pick → d ≡ None)
    → (option ≡ Gen → e ≡ None) → None ≡ asks_for a b c d e
asks_none Threads a b c d e is _ _ _ _ =
    subst (λ (x : Option (Option ℕ)). None ≡ asks_for x b c d e) (sym (is refl)) refl
asks_none Stop a b c d e _ is _ _ _ =
    subst (λ (x : Option (Option ℕ)). None ≡ asks_for a x c d e) (sym (is refl)) (stop a)
  where
    stop : (x : Option (Option ℕ)) → None ≡ asks_for x None c d e
    stop None = refl
    stop (Some x) = refl
asks_none Tear a b c d e _ _ is _ _ =
    subst (λ (x : Option (Option ℕ)). None ≡ asks_for a b x d e) (sym (is refl)) (tear a b)
  where
    tear : (x y : Option (Option ℕ)) → None ≡ asks_for x y None d e
    tear None y = refl
    tear (Some x) None = refl
    tear (Some x) (Some None) = refl
    tear (Some x) (Some (Some y)) = refl
asks_none Pick a b c d e _ _ _ is _ =
    subst (λ (x : Option (Option ℕ)). None ≡ asks_for a b c x e) (sym (is refl)) (pick a b c)
  where
    pick : (x y z : Option (Option ℕ)) → None ≡ asks_for x y z None e
    pick None y z = refl
    pick (Some x) None z = refl
    pick (Some x) (Some None) None = refl
    pick (Some x) (Some None) (Some None) = refl
    pick (Some x) (Some None) (Some (Some z)) = refl
    pick (Some x) (Some (Some y)) None = refl
    pick (Some x) (Some (Some y)) (Some z) = refl
asks_none Gen a b c d e _ _ _ _ is =
    subst (λ (x : Option (Option ℕ)). None ≡ asks_for a b c d x) (sym (is refl)) (gen a b c d)
  where
    gen : (x y z w : Option (Option ℕ)) → None ≡ asks_for x y z w None
    gen None y z w = refl
    gen (Some x) None z w = refl
    gen (Some x) (Some None) None w = refl
    gen (Some x) (Some None) (Some None) None = refl
    gen (Some x) (Some None) (Some None) (Some None) = refl
    gen (Some x) (Some None) (Some None) (Some (Some w)) = refl
    gen (Some x) (Some None) (Some (Some z)) w = refl
    gen (Some x) (Some (Some y)) None w = refl
    gen (Some x) (Some (Some y)) (Some z) None = refl
    gen (Some x) (Some (Some y)) (Some z) (Some w) = refl

pub run_none : (option : RunOption) (given : List Given) → number_of option given ≡ None → None ≡ run_by given
run_none option given is = asks_none option _ _ _ _ _ (λ e. by Threads e) (λ e. by Stop e) (λ e. by Tear e)
    (λ e. by Pick e) (λ e. by Gen e)
  where
    by : (o : RunOption) → option ≡ o → number_of o given ≡ None
    by o e = subst (λ (x : RunOption). number_of x given ≡ None) e is

-- ---- the values of an option

same_self : (option : RunOption) → is_same option option ≡ true
same_self Threads = refl
same_self Stop = refl
same_self Tear = refl
same_self Pick = refl
same_self Gen = refl

same_is : (a b : RunOption) → is_same a b ≡ true → a ≡ b
same_is Threads Threads is = refl
same_is Stop Stop is = refl
same_is Tear Tear is = refl
same_is Pick Pick is = refl
same_is Gen Gen is = refl
same_is Threads Stop is = absurd (cc is)
same_is Threads Tear is = absurd (cc is)
same_is Threads Pick is = absurd (cc is)
same_is Stop Threads is = absurd (cc is)
same_is Stop Tear is = absurd (cc is)
same_is Stop Pick is = absurd (cc is)
same_is Tear Threads is = absurd (cc is)
same_is Tear Stop is = absurd (cc is)
same_is Tear Pick is = absurd (cc is)
same_is Pick Threads is = absurd (cc is)
same_is Pick Stop is = absurd (cc is)
same_is Pick Tear is = absurd (cc is)
same_is Threads Gen is = absurd (cc is)
same_is Stop Gen is = absurd (cc is)
same_is Tear Gen is = absurd (cc is)
same_is Pick Gen is = absurd (cc is)
same_is Gen Threads is = absurd (cc is)
same_is Gen Stop is = absurd (cc is)
same_is Gen Tear is = absurd (cc is)
same_is Gen Pick is = absurd (cc is)

values_append : (option : RunOption) (before after : List Given)
    → values_of option (before ++ after) ≡ values_of option before ++ values_of option after
values_append option before after = filter_map-append (λ g. cond (is_same g.option option) (Some g.value) None)
    before after

values_first : (g : Given) (others : List Given) → values_of g.option (g ∷ others) ≡ g.value ∷ values_of g.option
    others
values_first g others = ap (λ o. cons_option o (values_of g.option others))
    (cond-true (is_same g.option g.option) (Some g.value) None (same_self g.option))

values_other : (option : RunOption) (g : Given) (others : List Given) → is_same g.option option ≡ false
    → values_of option (g ∷ others) ≡ values_of option others
values_other option g others other = ap (λ o. cons_option o (values_of option others))
    (cond-false (is_same g.option option) (Some g.value) None other)

-- an option of which no number is known was not given
no_value : (option : RunOption) (words : List (List ℕ)) → one_number option words ≡ Some None → words ≡ []
no_value option [] is = refl
no_value option (word ∷ []) is = absurd (never (number_for option word) is)
  where
    never : (o : Option ℕ) → option_map Some o ≡ Some None → ⊥
    never None is = cc is
    never (Some n) is = cc is
no_value option (word ∷ more ∷ words) is = absurd (cc is)

-- and one of which a number is known was given once
one_value : (option : RunOption) (words : List (List ℕ)) (n : ℕ) → one_number option words ≡ Some (Some n)
    → (word : List ℕ) × (words ≡ word ∷ [])
one_value option [] n is = absurd (cc is)
one_value option (word ∷ []) n is = (word, refl)
one_value option (word ∷ more ∷ words) n is = absurd (cc is)

-- a faulty number, or one more
faulty_number : (option : RunOption) (word : List ℕ) (words : List (List ℕ)) → number_for option word ≡ None
    → one_number option (word ∷ words) ≡ None
faulty_number option word [] is = ap (option_map Some) is
faulty_number option word (more ∷ words) is = refl

twice : (option : RunOption) (a b : List ℕ) (words : List (List ℕ))
    → one_number option ((a ∷ []) ++ (b ∷ words)) ≡ None
twice option a b words = refl

module _ (read : List Given) (numbers : Numbers) (are : AreOf read numbers) (g : Given) where
  all_values : (others : List Given) → values_of g.option (read ++ (g ∷ others)) ≡ values_of g.option read ++
      (g.value ∷ values_of g.option others)
  all_values others = values_append g.option read (g ∷ others) ∙ ap (λ vs. values_of g.option read ++ vs)
      (values_first g others)

  -- where it is not taken, there is no number of this option
  not_taken : (others : List Given) → Takes numbers g None → number_of g.option (read ++ (g ∷ others)) ≡ None
  not_taken others (inl given) = given_twice (number_in g.option numbers) (are g.option) given
    where
      given_twice : (o : Option ℕ) → number_of g.option read ≡ Some o → IsSome o
          → number_of g.option (read ++ (g ∷ others)) ≡ None
      given_twice None is some = absurd (cc some)
      given_twice (Some n) is some =
          let once = one_value g.option (values_of g.option read) n is in
          ap (one_number g.option) (all_values others ∙ ap (λ vs. vs ++ (g.value ∷ values_of g.option others)) once.1)
  not_taken others (inr faulty) = not_new (number_in g.option numbers) (are g.option)
    where
      not_new : (o : Option ℕ) → number_of g.option read ≡ Some o → number_of g.option (read ++ (g ∷ others)) ≡ None
      not_new None is =
          ap (one_number g.option) (all_values others ∙ ap (λ vs. vs ++ (g.value ∷ values_of g.option others))
          (no_value g.option (values_of g.option read) is))
          ∙ faulty_number g.option g.value (values_of g.option others) faulty
      not_new (Some n) is =
          let once = one_value g.option (values_of g.option read) n is in
          ap (one_number g.option) (all_values others ∙ ap (λ vs. vs ++ (g.value ∷ values_of g.option others)) once.1)

  -- where it is taken, the numbers are those of one option more
  taken : (after : Numbers) → Takes numbers g (Some after) → AreOf (read ++ (g ∷ [])) after
  taken after takes option = by (is_same g.option option) refl
    where
      some : (o : Option ℕ) → IsSome o → option_map Some o ≡ Some o
      some None is = absurd (cc is)
      some (Some n) is = refl

      once : number_of g.option (read ++ (g ∷ [])) ≡ Some (number_for g.option g.value)
      once = ap (one_number g.option) (all_values []
          ∙ ap (λ vs. vs ++ (g.value ∷ [])) (no_value g.option (values_of g.option read) (are g.option
          ∙ ap Some takes.0)))
          ∙ some (number_for g.option g.value) takes.1

      by : (b : Bool) → is_same g.option option ≡ b → number_of option (read ++ (g ∷ [])) ≡ Some
          (number_in option after)
      by true same =
          subst (λ (o : RunOption). number_of o (read ++ (g ∷ [])) ≡ Some (number_for o g.value))
          (same_is g.option option same) once
          ∙ ap Some (sym (takes.2 option ∙ cond-true (is_same g.option option) (number_for option g.value)
          (number_in option numbers) same))
      by false other =
          ap (one_number option) (values_append option read (g ∷ []) ∙ ap (λ vs. values_of option read ++ vs)
          (values_other option g [] other) ∙ append-nil (values_of option read))
          ∙ are option ∙ ap Some (sym (takes.2 option ∙ cond-false (is_same g.option option)
          (number_for option g.value) (number_in option numbers) other))

-- ---- the words that are left

-- what is read and what is to be read, once one option more is read
read_more : (read : List Given) (g : Given) (o : Option (List Given)) → option_map (λ others. read ++ others)
    (put_before (Some g) o) ≡ option_map (λ others. (read ++ (g ∷ [])) ++ others) o
read_more read g None = refl
read_more read g (Some gs) = ap Some (sym (append_assoc read (g ∷ []) gs))

nothing_left : (words : List (List ℕ)) (o : Option (List Given)) (read : List Given)
    → given_in words ≡ option_map (λ others. read ++ others) o → o ≡ None → None ≡ run_of words
nothing_left words o read split none = sym
    (ap (option_and_then run_by) (split ∙ ap (option_map (λ others. read ++ others)) none))

module _ (words rest : List (List ℕ)) (numbers : Numbers) (so : IsSoFar words rest numbers) where
  pub faulty : given_in rest ≡ None → None ≡ run_of words
  faulty none = nothing_left words (given_in rest) so.read so.split none

  module _ (behind : List (List ℕ)) (g : Given) (first : given_in rest ≡ put_before (Some g) (given_in behind)) where
    split_on : given_in words ≡ option_map (λ others. (so.read ++ (g ∷ [])) ++ others) (given_in behind)
    split_on = so.split ∙ ap (option_map (λ others. so.read ++ others)) first ∙ read_more so.read g (given_in behind)

    pub so_on : (after : Numbers) → Takes numbers g (Some after) → IsSoFar words behind after
    so_on after takes = record {
      read = so.read ++ (g ∷ []);
      split = split_on;
      numbers_are = taken so.read numbers so.numbers_are g after takes;
    }

    pub refused : Takes numbers g None → None ≡ run_of words
    refused takes = by (given_in behind) split_on
      where
        by : (o : Option (List Given)) → given_in words ≡ option_map (λ others. (so.read ++ (g ∷ [])) ++ others) o
            → None ≡ run_of words
        by None is = sym (ap (option_and_then run_by) is)
        by (Some others) is =
            run_none g.option (so.read ++ (g ∷ others)) (not_taken so.read numbers so.numbers_are g others takes)
            ∙ sym (ap (option_and_then run_by) (is ∙ ap Some (append_assoc so.read (g ∷ []) others)))

-- all words are read
pub all_read : (words : List (List ℕ)) (numbers : Numbers) → IsSoFar words [] numbers
    → run_of words ≡ asks_for (Some numbers.threads) (Some numbers.stop) (Some numbers.tear) (Some numbers.pick)
    (Some numbers.seed)
unfolding given_in
all_read words numbers so =
    ap (option_and_then run_by) (so.split ∙ ap Some (append-nil so.read))
    ∙ ap (λ o. asks_for o (number_of Stop so.read) (number_of Tear so.read) (number_of Pick so.read)
    (number_of Gen so.read)) (so.numbers_are Threads)
    ∙ ap (λ o. asks_for (Some numbers.threads) o (number_of Tear so.read) (number_of Pick so.read)
    (number_of Gen so.read)) (so.numbers_are Stop)
    ∙ ap (λ o. asks_for (Some numbers.threads) (Some numbers.stop) o (number_of Pick so.read)
    (number_of Gen so.read)) (so.numbers_are Tear)
    ∙ ap (λ o. asks_for (Some numbers.threads) (Some numbers.stop) (Some numbers.tear) o
    (number_of Gen so.read)) (so.numbers_are Pick)
    ∙ ap (λ o. asks_for (Some numbers.threads) (Some numbers.stop) (Some numbers.tear) (Some numbers.pick) o)
    (so.numbers_are Gen)
