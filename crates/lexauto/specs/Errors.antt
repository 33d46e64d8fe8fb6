-- What a refused work list is to the builder.
use Rattle.lexauto.specs.declared.explore.ExploreError.{ExploreError}
use Rattle.lexauto.specs.declared.explore.ExploreError.TheVariants.{TooMany, Memory}
use Rattle.lexauto.specs.declared.error.BuildError.{BuildError}
use Rattle.lexauto.specs.declared.error.BuildError.TheVariants.{TooManyStates, OutOfMemory}

abbrev pub build_error : ExploreError → BuildError
build_error TooMany = TooManyStates
build_error Memory = OutOfMemory
