pub mod StepHeld
