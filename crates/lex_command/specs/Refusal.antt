-- What a refused parse of the command line is told as.
use Rattle.clap.specs.declared.error.kind.ErrorKind.{ErrorKind}
use Rattle.clap.specs.declared.error.kind.ErrorKind.TheVariants as parses
use Rattle.lex_command.specs.declared.error.ArgsError.{ArgsError}
use Rattle.lex_command.specs.declared.error.ArgsError.TheVariants.{Usage, OutOfMemory}

-- want of memory, or a line that is not the program's; one that asks for help or a version is none
abbrev pub refusal_of : ErrorKind → ArgsError
refusal_of parses.OutOfMemory = OutOfMemory
refusal_of other = Usage
