-- What an error prints.
use Rattle.std.specs.Prelude.{ℕ, List, codes}
use Rattle.sketch_base.specs.declared.error.ErrorKind.{ErrorKind}
use Rattle.sketch_base.specs.declared.error.ErrorKind.TheVariants.{InvalidArgument, InvalidData, OutOfMemory}
use Rattle.sketch_base.specs.declared.error.ErrorKind.TheVariants.{Policy, Failed}

-- the sentence of each kind
abbrev pub error_text : ErrorKind → List ℕ
error_text InvalidArgument = codes "an argument is outside its range or belongs to another seed"
error_text InvalidData = codes "the bytes are not valid there, or end too early"
error_text OutOfMemory = codes "a request for memory was refused"
error_text Policy = codes "a policy on summaries refused its arguments"
error_text Failed = codes "an earlier refusal left it half changed; it refuses until it is reset"
