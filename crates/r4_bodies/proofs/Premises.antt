-- Edits of commands are such as their bodies are told of.
use Rattle.std.specs.Prelude.{ℕ, ◌^◌, ◌≤◌, [], ◌∷◌, All, false}
use Rattle.std.proofs.Common.{arith}
use Rattle.std.proofs.lemmas.List.Elements.{All-cons, All-head, All-nil, All-tail}
use Rattle.r4_content.specs.Edited.{Edits, Pairs}
use Rattle.r4_content.specs.Fields.{HasBytePaths}
use Rattle.r4_content.specs.Seen.{Rises}
use Rattle.r4_content.specs.declared.command.Command.{Command}
use Rattle.r4_leaf_demands.specs.r4_leaf_edits.Suiting.{IsBefore, SuitLeaves}
use Rattle.r4_leaf_demands.specs.r4_reach.Touched.{body_on, edits_on}
use Rattle.r4_leaf_demands.specs.r4_suited.Suited.{AreLawfulSeen, end_of_bytes}
use Rattle.r4_leaf_demands.proofs.r4_suited.Suits.{command_suits, end_most}

before_later : (end last : ℕ) (ps : Pairs) → end ≤ last → All (IsBefore end) ps → All (IsBefore last) ps
before_later end last [] le all = All-nil (IsBefore last)
before_later end last (p ∷ ps) le all =
    let (body, lt) = All-head (IsBefore end) p ps all in
    All-cons (IsBefore last) p ps (body, omega (arith, lt, le))
    (before_later end last ps le (All-tail (IsBefore end) p ps all))

pub suits_later : (end last : ℕ) (e : Edits) → end ≤ last → SuitLeaves end e → SuitLeaves last e
suits_later end last e le suit = record {
  once = suit.once;
  bytes = before_later end last _ le suit.bytes;
  values = suit.values;
}

pub command_bytes : (c : Command) (s : Pairs) → HasBytePaths c → Rises s → AreLawfulSeen c s
    → SuitLeaves (2 ^ 64) (edits_on c s)
command_bytes c s bytes r lawful =
    let b = body_on c s false in
    suits_later (end_of_bytes b) (2 ^ 64) (edits_on c s) (end_most b) (command_suits c s false bytes r lawful)
