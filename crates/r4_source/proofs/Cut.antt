-- Texts that are cut off one byte past the longest that spells a job.
use Rattle.std.proofs.Common.{◌≡◌, ℕ, suc, Bool, List, length, take, ap, sym, ◌∙◌, inl, inr, arith}
use Rattle.std.proofs.lemmas.Bool.{cases_lt, lt-ltb}
use Rattle.std.proofs.lemmas.List.{length-take, take-take, take_all}
use Rattle.std.specs.Prelude.{nat_lt}
use Rattle.r4_script.specs.Progress.{nothing}
use Rattle.r4_script.specs.Split.{split}
use Rattle.r4_script.specs.Text.{job_of, job_read, lines_read, text_read}

-- it is too long where the whole text is
pub long_alike : (n : ℕ) (text : List ℕ) → nat_lt n (length (take (suc n) text)) ≡ nat_lt n (length text)
long_alike n text = elim (cases_lt n (length text)) [
  | inr short ↦ ap (λ (l : List ℕ). nat_lt n (length l)) (take_all (suc n) text (omega arith))
  | inl long ↦ lt-ltb n (length (take (suc n) text)) (omega (arith, length-take (suc n) text))
      ∙ sym (lt-ltb n (length text) long)
]

-- and has the same lines
pub read_alike : (n : ℕ) (text : List ℕ) → text_read n (take (suc n) text) ≡ text_read n text
unfolding text_read
read_alike n text =
    ap (λ (b : Bool). lines_read b 1 nothing (split 10 (take n (take (suc n) text)))) (long_alike n text)
    ∙ ap (λ (l : List ℕ). lines_read (nat_lt n (length text)) 1 nothing (split 10 l))
    (take-take n (suc n) text (omega arith))

pub job_alike : (text : List ℕ) → job_of (take 16777217 text) ≡ job_of text
unfolding job_of
job_alike text = ap job_read (read_alike 16777216 text)
