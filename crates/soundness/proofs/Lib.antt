-- The laws that say what the theorems of `soundness` say, of the verifier with any function: they rest on those of specs/laws/.
mod GreenLaws
mod ExampleLaws
mod FigureLaws
mod OursLaws
