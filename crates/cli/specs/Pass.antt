-- Which forms `pass` can be asked for.
use Rattle.std.specs.Prelude.{◌≤◌, ⊤}
use Rattle.cli.specs.declared.pass.Form.{Form}
use Rattle.cli.specs.declared.pass.Form.TheVariants.{Words, Worst}

-- 1 to 100 of the worst paths
abbrev pub IsListed : Form → Type 0
IsListed (Worst paths early layout) = (1 ≤ paths) × (paths ≤ 100)
IsListed form = ⊤

-- one register can be asked for, alone
abbrev pub IsOfOneRegister : Form → Type 0
IsOfOneRegister Words = ⊤
IsOfOneRegister form = ⊥
