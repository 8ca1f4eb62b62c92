-- The number by which a program tells whether header and archive belong together.
use Rattle.std.specs.Prelude.{ℕ}

-- the version of the exported structures and functions: it rises when one is added and with every change of one, of what it answers too
abbrev pub interface_version : ℕ
interface_version = 7
