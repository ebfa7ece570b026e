-- The options of `run` (docs/program.md, "Words").
use Rattle.std.specs.Prelude.{◌≡◌, ◌⊎◌, ℕ, ◌≤◌, ◌-◌, ◌^◌, Bool, true, false, nat_eq, nat_le, nat_lt, ◌&&◌}
use Rattle.std.specs.Prelude.{if◌then◌else◌}
use Rattle.std.specs.Prelude.{List, [], ◌∷◌, codes, bytes_eq, filter_map, length, map, string_bytes}
use Rattle.std.specs.Prelude.{Option, Some, None, IfSome, IsSome, option_and_then, option_map, unwrap_or}
use Rattle.std.specs.Char.{is_ascii_digit}
use Rattle.std.specs.List.{after_first, before_first, list_all, position_or_len}
use Rattle.std.specs.Str.Parse.{digits_value}
use Rattle.r4_words.specs.declared.options.First.{First}
use Rattle.r4_words.specs.declared.options.Numbers.{Numbers}
use Rattle.r4_words.specs.declared.options.RunOption.{RunOption}
use Rattle.r4_words.specs.declared.options.RunOption.TheVariants.{Threads, Stop, Tear, Pick, Gen}
use Rattle.r4_words.specs.declared.options.RunWords.{RunWords}
use Rattle.r4_words.specs.declared.options.StopWords.{StopWords}

-- ---- what is asked for

-- A stop of the device: so many writes pass; of the next one the sectors are written whose bits are set in
-- `tear`; and with a number `pick` some of what was written and not synced before goes back.
pub record StopAsked : Type 0 where
  pub writes : ℕ
  pub tear : ℕ
  pub pick : Option ℕ

-- A run by so many threads, on a device that stops where that is asked for: of the scripts of the source, or of
-- the generated workload of a seed.
pub record RunAsked : Type 0 where
  pub threads : ℕ
  pub stop : Option StopAsked
  pub seed : Option ℕ

abbrev pub asked_stop : StopWords → StopAsked
asked_stop words = record { writes = words.writes; tear = words.tear; pick = words.pick }

abbrev pub asked_run : RunWords → RunAsked
asked_run words =
    record { threads = words.threads; stop = option_map asked_stop words.stop; seed = words.seed }

-- ---- the numbers of the options

-- the least and the greatest number of an option
abbrev pub least : RunOption → ℕ
least Threads = 1
least Stop = 0
least Tear = 0
least Pick = 0
least Gen = 0

abbrev pub greatest : RunOption → ℕ
greatest Threads = 16
greatest Stop = 2 ^ 64 - 1
greatest Tear = 255
greatest Pick = 2 ^ 64 - 1
greatest Gen = 2 ^ 64 - 1

abbrev pub is_in_range : RunOption → ℕ → Bool
is_in_range option number = nat_le (least option) number && nat_le number (greatest option)

abbrev pub IsInRange : RunOption → ℕ → Type 0
IsInRange option number = (least option ≤ number) × (number ≤ greatest option)

-- 1 to 20 decimal digits and nothing else
abbrev pub is_numeral : List ℕ → Bool
is_numeral word = nat_le 1 (length word) && nat_le (length word) 20 && list_all is_ascii_digit word

abbrev pub number_for : RunOption → List ℕ → Option ℕ
number_for option word =
    if is_numeral word && is_in_range option (digits_value 10 word) then Some (digits_value 10 word) else None

-- ---- options and their values

-- An option that is given, and the word that is its value.
pub record Given : Type 0 where
  pub option : RunOption
  pub value : List ℕ

abbrev pub option_named : List ℕ → Option RunOption
option_named name =
    if bytes_eq name (codes "--threads") then Some Threads else
    if bytes_eq name (codes "--stop") then Some Stop else
    if bytes_eq name (codes "--tear") then Some Tear else
    if bytes_eq name (codes "--pick") then Some Pick else
    if bytes_eq name (codes "--gen") then Some Gen else
    None

abbrev pub given_by : (name value : List ℕ) → Option Given
given_by name value = option_map (λ option. record { option = option; value = value }) (option_named name)

-- whether a word has the sign '=', whose code is 61
abbrev pub has_sign : List ℕ → Bool
has_sign word = nat_lt (position_or_len (λ byte. nat_eq byte 61) word) (length word)

-- `--name=value`: the name stands before the first '='
abbrev pub given_in_one : List ℕ → Option Given
given_in_one word = given_by (before_first (λ byte. nat_eq byte 61) word) (after_first (λ byte. nat_eq byte 61) word)

abbrev pub put_before : Option Given → Option (List Given) → Option (List Given)
put_before (Some first) (Some others) = Some (first ∷ others)
put_before first others = None

-- The words taken apart into options and their values, each spelled `--name=value` or `--name value`.
unfoldable pub given_in : List (List ℕ) → Option (List Given)
given_in [] = Some []
given_in (word ∷ []) = if has_sign word then put_before (given_in_one word) (Some []) else None
given_in (word ∷ next ∷ words) =
    if has_sign word then put_before (given_in_one word) (given_in (next ∷ words))
    else put_before (given_by word next) (given_in words)

-- ---- what the options ask for

abbrev pub is_same : (a b : RunOption) → Bool
is_same Threads Threads = true
is_same Stop Stop = true
is_same Tear Tear = true
is_same Pick Pick = true
is_same Gen Gen = true
is_same a b = false

-- all words that are given as an option's value
abbrev pub values_of : RunOption → List Given → List (List ℕ)
values_of option given = filter_map (λ g. if is_same g.option option then Some g.value else None) given

-- the number in the one word that is an option's value; no number where the option is not given
abbrev pub one_number : RunOption → List (List ℕ) → Option (Option ℕ)
one_number option [] = Some None
one_number option (word ∷ []) = option_map Some (number_for option word)
one_number option (word ∷ more ∷ words) = None

abbrev pub number_of : RunOption → List Given → Option (Option ℕ)
number_of option given = one_number option (values_of option given)

-- One thread where no number is given, and no sector of the write at the stop. `--tear` and `--pick` stand only
-- with `--stop`.
abbrev pub asks_for : (threads stop tear pick seed : Option (Option ℕ)) → Option RunAsked
asks_for (Some threads) (Some None) (Some None) (Some None) (Some seed) =
    Some (record { threads = unwrap_or threads 1; stop = None; seed = seed })
asks_for (Some threads) (Some (Some writes)) (Some tear) (Some pick) (Some seed) = Some (record {
  threads = unwrap_or threads 1;
  stop = Some (record { writes = writes; tear = unwrap_or tear 0; pick = pick });
  seed = seed;
})
asks_for threads stop tear pick seed = None

abbrev pub run_by : List Given → Option RunAsked
run_by given =
    asks_for (number_of Threads given) (number_of Stop given) (number_of Tear given) (number_of Pick given)
    (number_of Gen given)

-- What the words behind the IMAGE of `run` ask for.
abbrev pub run_of : List (List ℕ) → Option RunAsked
run_of words = option_and_then run_by (given_in words)

-- ---- the numbers as they are read

abbrev pub number_in : RunOption → Numbers → Option ℕ
number_in Threads numbers = numbers.threads
number_in Stop numbers = numbers.stop
number_in Tear numbers = numbers.tear
number_in Pick numbers = numbers.pick
number_in Gen numbers = numbers.seed

-- The numbers are those of the options that are given.
abbrev pub AreOf : List Given → Numbers → Type 0
AreOf given numbers = (option : RunOption) → number_of option given ≡ Some (number_in option numbers)

-- each number that is there is in its option's range
abbrev pub AreInRange : Numbers → Type 0
AreInRange numbers = (option : RunOption) → IfSome (number_in option numbers) (IsInRange option)

abbrev pub given_as : First → Given
given_as first = record { option = first.option; value = first.value.now }

-- The first option in the words, with its value and the words behind it; without one the words are faulty.
abbrev pub IsFirst : List (List ℕ) → Option First → Type 0
IsFirst words None = given_in words ≡ None
IsFirst words (Some first) =
    given_in words ≡ put_before (Some (given_as first)) (given_in (map string_bytes first.behind.now))

-- One number more, that of an option that was not given before.
abbrev pub Takes : Numbers → Given → Option Numbers → Type 0
Takes before g None = IsSome (number_in g.option before) ⊎ (number_for g.option g.value ≡ None)
Takes before g (Some after) =
    (number_in g.option before ≡ None) × IsSome (number_for g.option g.value)
    × ((option : RunOption) → number_in option after
    ≡ (if is_same g.option option then number_for option g.value else number_in option before))
