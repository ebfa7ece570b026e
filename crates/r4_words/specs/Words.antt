-- What the words of a command line ask for (docs/program.md, "Words").
use Rattle.std.specs.Prelude.{ℕ, ◌≤◌, Bool, false, not, nat_eq, nat_le, ◌&&◌, if◌then◌else◌, List, [], ◌∷◌}
use Rattle.std.specs.Prelude.{codes, bytes_eq, drop, length, Option, Some, None, option_map}
use Rattle.std.specs.List.{list_all, starts_with}
use Rattle.r4_mkfs.specs.Mkfs.{IsLabel}
use Rattle.r4_words.specs.Options.{RunAsked, asked_run, run_of}
use Rattle.r4_words.specs.declared.words.Command.{Command}
use Rattle.r4_words.specs.declared.words.Command.TheVariants.{Offline as OfflineCommand, Run}
use Rattle.r4_words.specs.declared.words.Offline.{Offline}
use Rattle.r4_words.specs.declared.words.Offline.TheVariants.{Replay, Mkfs, List as ListCommand, Check}

-- A command on an image that nobody else works on: `mkfs` has a label, which is empty where none was given, and
-- `list` a path.
pub data AskedOffline : Type 0 where
  AsksReplay : AskedOffline
  AsksMkfs : (label : List ℕ) → AskedOffline
  AsksList : (path : List ℕ) → AskedOffline
  AsksCheck : AskedOffline

-- What is asked for.
pub data Asked : Type 0 where
  AsksOffline : AskedOffline → Asked
  AsksRun : RunAsked → Asked

abbrev pub asked_offline : Offline → AskedOffline
asked_offline Replay = AsksReplay
asked_offline (Mkfs label) = AsksMkfs label.now
asked_offline (ListCommand path) = AsksList path.now
asked_offline Check = AsksCheck

abbrev pub asked_by : Command → Asked
asked_by (OfflineCommand command) = AsksOffline (asked_offline command)
asked_by (Run run) = AsksRun (asked_run run)

-- a command that can be done: `mkfs` has a label that it takes, and the path of `list` is not empty
abbrev pub CanBeDoneOffline : Offline → Type 0
CanBeDoneOffline Replay = Unit {0}
CanBeDoneOffline (Mkfs label) = IsLabel label.now
CanBeDoneOffline (ListCommand path) = 1 ≤ length path.now
CanBeDoneOffline Check = Unit {0}

-- `run` has from 1 to 16 threads
abbrev pub CanBeDone : Command → Type 0
CanBeDone (OfflineCommand command) = CanBeDoneOffline command
CanBeDone (Run run) = (1 ≤ run.threads) × (run.threads ≤ 16)

-- whether a word begins with '-'
abbrev pub is_option : List ℕ → Bool
is_option [] = false
is_option (byte ∷ rest) = nat_eq byte 45

-- An IMAGE is not empty and does not begin with '-'.
abbrev pub is_image : List ℕ → Bool
is_image [] = false
is_image (byte ∷ rest) = not (nat_eq byte 45)

-- A label that is given has 1 to 16 bytes, none of them zero, and does not begin with '-'.
abbrev pub is_label : List ℕ → Bool
is_label word =
    nat_le 1 (length word) && nat_le (length word) 16 && not (is_option word)
    && list_all (λ byte. not (nat_eq byte 0)) word

abbrev pub as_label : List ℕ → Option (List ℕ)
as_label word = if is_label word then Some word else None

-- the label in `--label=L`
abbrev pub label_in : List ℕ → Option (List ℕ)
label_in word = if starts_with nat_eq word (codes "--label=") then as_label (drop 8 word) else None

-- The words behind the IMAGE of `mkfs`: none, `--label L` or `--label=L`.
abbrev pub label_of : List (List ℕ) → Option (List ℕ)
label_of [] = Some []
label_of (word ∷ []) = label_in word
label_of (word ∷ value ∷ []) = if bytes_eq word (codes "--label") then as_label value else None
label_of (word ∷ value ∷ more ∷ words) = None

-- A PATH begins with a slash.
abbrev pub is_path : List ℕ → Bool
is_path [] = false
is_path (byte ∷ rest) = nat_eq byte 47

abbrev pub as_path : List ℕ → Option (List ℕ)
as_path word = if is_path word then Some word else None

-- The words behind the IMAGE of `list`: none, for the path of the slash alone, or a PATH.
abbrev pub path_of : List (List ℕ) → Option (List ℕ)
path_of [] = Some (codes "/")
path_of (word ∷ []) = as_path word
path_of (word ∷ more ∷ words) = None

-- no word follows the IMAGE of `replay`, or of `check`
abbrev pub alone_of : AskedOffline → List (List ℕ) → Option Asked
alone_of asked [] = Some (AsksOffline asked)
alone_of asked (word ∷ words) = None

-- The command's name, an IMAGE, and what the command has behind it.
abbrev pub asked_of : List (List ℕ) → Option Asked
asked_of [] = None
asked_of (name ∷ []) = None
asked_of (name ∷ image ∷ words) =
    if not (is_image image) then None else
    if bytes_eq name (codes "replay") then alone_of AsksReplay words else
    if bytes_eq name (codes "check") then alone_of AsksCheck words else
    if bytes_eq name (codes "mkfs") then option_map (λ label. AsksOffline (AsksMkfs label)) (label_of words) else
    if bytes_eq name (codes "list") then option_map (λ path. AsksOffline (AsksList path)) (path_of words) else
    if bytes_eq name (codes "run") then option_map AsksRun (run_of words) else
    None
