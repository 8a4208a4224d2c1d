-- What a line spells.
use Rattle.std.specs.Prelude.{◌≡◌, ℕ, ◌≤◌, List, ◌++◌, length, ℤ}
use Rattle.tinyvec_script.specs.Command.{IsCall, IsSplice, IsCommand, Has, HasSplice, name_text}
use Rattle.tinyvec_script.specs.declared.call.End.{End}
use Rattle.tinyvec_script.specs.declared.call.Call.{Call}
use Rattle.tinyvec_script.specs.declared.command.Name.{Name}
use Rattle.tinyvec_script.specs.declared.command.Command.{Command}
use Rattle.tinyvec_script.specs.declared.command.Command.TheVariants as commands
use Rattle.tinyvec_script.specs.TextCalls.{TextCall, IsTextCommand, call_of}

-- the line spells a splice of a vector that has splices, whose letters or numbers have to be allocated
pub record NeedsMemory (line : List ℕ) (name : Name) : Type 0 where
  pub text : List ℕ
  pub start : ℕ
  pub end : ℕ
  pub word : List End
  pub numbers : List ℤ
  pub named : line ≡ name_text name ++ text
  pub spelled : IsSplice text start end word numbers
  pub has : HasSplice name
  pub short : length line ≤ 128

-- what the text after a vector's name spells
abbrev pub SpellsFor : Name → List ℕ → Command → Type 0
SpellsFor name text (commands.Vector for call) = (for ≡ name) × IsCall text call × Has name call
SpellsFor name text (commands.Text call) = ⊥
SpellsFor name text commands.Bad = (call : Call ℤ) → Has name call → IsCall text call → ⊥
SpellsFor name text (commands.Memory for) = (for ≡ name) × HasSplice name
    × ((start end : ℕ) × (word : List End) × (numbers : List ℤ) × IsSplice text start end word numbers)

-- what the line spells
abbrev pub Spells : List ℕ → Command → Type 0
Spells line (commands.Vector name call) = IsCommand line name call
Spells line (commands.Text call) = IsTextCommand line (call_of call)
Spells line commands.Bad = ((name : Name) (call : Call ℤ) → IsCommand line name call → ⊥)
    × ((call : TextCall) → IsTextCommand line call → ⊥)
Spells line (commands.Memory name) = NeedsMemory line name
