use Rattle.std.proofs.Common.{◌≡◌, ℕ, List, codes, Some, refl, sym, ◌∙◌, subst, arith}
use Rattle.tinyvec_script.specs.Spelled.{Spells}
use Rattle.tinyvec_script.specs.Script.Answered.{done, memory, text_done, bad}
use Rattle.tinyvec_script.specs.TextCalls.{call_of}
use Rattle.tinyvec_script.specs.declared.command.Command.{Command}
use Rattle.tinyvec_script.specs.History.{kept}
use Rattle.tinyvec_script.proofs.HistoryLemmas.{kept_is, too_long_kept}
use Rattle.tinyvec_script.proofs.script.answer_line.Goals as goal

pub returns-in_default : goal.returns-in_default
returns-in_default g c = (
  codes "bad",
  c.put.ensures,
  λ rest k. let long = too_long_kept rest (sym c.in_default.ensures ∙ k) in
      bad (λ name call h. omega (arith, long, h.short)) (λ call h. omega (arith, long, h.short)) refl refl,
)

-- what the line spells that is kept
spells : (line : List ℕ) (made command : Command) → made ≡ command → Spells line made → (rest : List ℕ) → Some line ≡ kept rest → Spells rest command
spells line made command is h rest k = subst (λ l. Spells l command) (kept_is rest line k).0 (subst (Spells line) is h)

pub returns-in-Vector : goal.returns-in-Vector
returns-in-Vector g c = (
  _,
  c.write_line.ensures,
  λ rest k. done c.in-Vector.name c.in-Vector.call c.answer-answered.result (spells _ _ _ c.in-Vector.is c.parse_line.ensures rest (sym c.in-Some.ensures ∙ k))
      c.answer-answered.ensures refl,
)

pub returns-in-Text : goal.returns-in-Text
returns-in-Text g c = (
  _,
  c.write_text_line.ensures,
  λ rest k. text_done (call_of c.in-Text.call) c.answer_text-answered.result (spells _ _ _ c.in-Text.is c.parse_line.ensures rest (sym c.in-Some.ensures ∙ k))
      c.answer_text-answered.ensures refl,
)

pub returns-in-Bad : goal.returns-in-Bad
returns-in-Bad g c = (
  codes "bad",
  c.put-in-Bad.ensures,
  λ rest k. let none = spells _ _ _ c.in-Bad.is c.parse_line.ensures rest (sym c.in-Some.ensures ∙ k) in bad none.0 none.1 refl refl,
)

pub returns-in-Memory : goal.returns-in-Memory
returns-in-Memory g c = (
  _,
  c.write_line-in-Memory.ensures,
  λ rest k. memory c.in-Memory.name (spells _ _ _ c.in-Memory.is c.parse_line.ensures rest (sym c.in-Some.ensures ∙ k)) refl refl,
)
