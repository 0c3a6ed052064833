mod CrashFinds
