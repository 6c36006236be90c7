-- What a change of the stack size stands for.
use Rattle.pcode.specs.declared.Delta.{Delta}
use Rattle.pcode.specs.declared.Delta.TheVariants.{Down, Level, Up}
use Rattle.pcode.specs.Pcode as pcode
use Rattle.pcode.specs.Pcode.{up, down}

abbrev pub delta_of : Delta → pcode.Delta
delta_of (Down n) = down n
delta_of Level = up 0
delta_of Up = up 1
