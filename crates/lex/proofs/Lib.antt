mod Flushed
